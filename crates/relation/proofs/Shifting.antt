-- The digits of a word that is shifted, and of two words that exchange halves. Assumes nothing.
use mathlib.Core.Path.{◌≡◌, ap, sym, ◌∙◌}
use Prim.Native.Nat.{ℕ, zero, suc, ◌+◌, ◌-◌, ◌*◌, ◌/◌, ◌%◌, ◌^◌, ◌<◌, min, max}
use native.Mathlib.Omega.{arith}
use native.Mathlib.Nat.{pow-suc, mul_assoc, mod-lt, add-div_right}
use native.Mathlib.Decide.{dec_lt}
use lib.Bits.{bit_and, bit_or, or_lt, and_le_r}
use lib.Pow.{shr-shr, shl-shr, field, mod-mod-pow, pow_pos}
use Rattle.stateset.specs.Set.{bit}
use Rattle.stateset.proofs.Bits.{bit_lt, bit_0, bit_suc, bit-or, bit-and, bit_not}
use Rattle.relation.specs.Relation.{Masks}

-- the digits of a shift down
pub bit_shr : (j c w : ℕ) → bit c (w / 2 ^ j) ≡ bit (j + c) w
unfolding bit
bit_shr j c w = ap (λ (x : ℕ). x % 2) (shr-shr w j c)

-- the digits of a shift up, and the zeros below them
pub bit_shl : (j c w : ℕ) → bit (j + c) (w * 2 ^ j) ≡ bit c w
unfolding bit
bit_shl j c w = ap (λ (x : ℕ). x % 2) (sym (shr-shr (w * 2 ^ j) j c) ∙ ap (λ (x : ℕ). x / 2 ^ c) (shl-shr w j))

double : (j w : ℕ) → w * 2 ^ suc j ≡ w * 2 ^ j * 2
double j w = ap (λ (x : ℕ). w * x) (pow-suc 2 j) ∙ sym (mul_assoc w (2 ^ j) 2)

pub bit_shl_low : (j c w : ℕ) → c < j → bit c (w * 2 ^ j) ≡ 0
bit_shl_low zero c w l = omega arith
bit_shl_low (suc j) zero w l = omega (arith, bit_0 (w * 2 ^ suc j), double j w)
bit_shl_low (suc j) (suc c) w l =
    let half : w * 2 ^ suc j / 2 ≡ w * 2 ^ j = omega (arith, double j w) in
    bit_suc c (w * 2 ^ suc j) ∙ ap (bit c) half ∙ bit_shl_low j c w (omega arith)

-- what is cut off leaves the lower digits
pub bit_mod : (k c w : ℕ) → c < k → bit c (w % 2 ^ k) ≡ bit c w
unfolding bit
bit_mod k c w l =
    let e : (k - c - 1 + 1) + c ≡ k = omega arith in
    ap (λ (x : ℕ). w % 2 ^ x / 2 ^ c % 2) (sym e)
    ∙ ap (λ (x : ℕ). x % 2) (field w (k - c - 1 + 1) c)
    ∙ mod-mod-pow (w / 2 ^ c) (k - c - 1) 1

-- what a round makes of the words low and high: first what each has where the mask has 1, then the rest
abbrev pub first : (j mask low high : ℕ) → ℕ
first j mask low high = bit_or (bit_and low mask) ((bit_and high mask * 2 ^ j) % 2 ^ 64)

abbrev pub second : (j mask low high : ℕ) → ℕ
second j mask low high = bit_or (bit_and (low / 2 ^ j) mask) (bit_and high (18446744073709551615 - mask))

-- where the mask has 1 for the numbers whose digit of weight j is 0
module _ (j mask low high : ℕ) (pos : 0 < j) (small : mask < 2 ^ 64) (m : Masks j mask) where
  -- what comes into the first word from the high one
  up : ℕ
  up = (bit_and high mask * 2 ^ j) % 2 ^ 64

  -- the digit of weight j, j places further up
  next : (c : ℕ) → (j + c) / j % 2 ≡ 1 - c / j % 2
  next c =
      let e : j + c ≡ c + j = omega arith in
      let f : (j + c) / j ≡ c / j + 1 = ap (λ (x : ℕ). x / j) e ∙ add-div_right c pos in
      ap (λ (x : ℕ). x % 2) f ∙ omega arith

  -- its digits
  up_low : (c : ℕ) → c < 64 → c < j → bit c up ≡ 0
  unfolding up
  up_low c l h = bit_mod 64 c (bit_and high mask * 2 ^ j) l ∙ bit_shl_low j c (bit_and high mask) h

  up_high : (c : ℕ) → j + c < 64 → bit (j + c) up ≡ min (bit c high) (1 - c / j % 2)
  unfolding up
  up_high c l =
      bit_mod 64 (j + c) (bit_and high mask * 2 ^ j) l
      ∙ bit_shl j c (bit_and high mask)
      ∙ bit-and c high mask
      ∙ ap (min (bit c high)) (m.digit c (omega arith))

  -- the digits of both words
  first_is : (c : ℕ) → c < 64 → bit c (first j mask low high) ≡ max (min (bit c low) (1 - c / j % 2)) (bit c up)
  unfolding up
  first_is c l =
      bit-or c (bit_and low mask) up
      ∙ ap (λ (x : ℕ). max x (bit c up)) (bit-and c low mask ∙ ap (min (bit c low)) (m.digit c l))

  second_is : (c : ℕ) → c < 64 → bit c (second j mask low high) ≡ max (min (bit (j + c) low) (bit c mask)) (min (bit c high) (1 - bit c mask))
  second_is c l =
      bit-or c (bit_and (low / 2 ^ j) mask) (bit_and high (18446744073709551615 - mask))
      ∙ ap (λ (x : ℕ). max x (bit c (bit_and high (18446744073709551615 - mask))))
      (bit-and c (low / 2 ^ j) mask ∙ ap (λ (x : ℕ). min x (bit c mask)) (bit_shr j c low))
      ∙ ap (max (min (bit (j + c) low) (bit c mask)))
      (bit-and c high (18446744073709551615 - mask) ∙ ap (min (bit c high)) (bit_not 64 c mask small l))

  -- a number c that has 0 for its digit, and j + c, which has 1
  module _ (c : ℕ) (z : c / j % 2 ≡ 0) (l : j + c < 64) where
    pub first_0 : bit c (first j mask low high) ≡ bit c low
    first_0 = go (dec_lt c j)
      where
        go : Dec (c < j) → bit c (first j mask low high) ≡ bit c low
        go (yes h) = omega (arith, first_is c (omega arith), up_low c (omega arith) h, bit_lt c low)
        go (no h) =
            let e : j + (c - j) ≡ c = omega arith in
            let u : bit (j + (c - j)) up ≡ bit c up = ap (λ (x : ℕ). bit x up) e in
            let n : (j + (c - j)) / j % 2 ≡ c / j % 2 = ap (λ (x : ℕ). x / j % 2) e in
            omega (arith, first_is c (omega arith), up_high (c - j) (omega arith), next (c - j), bit_lt c low)

    pub first_1 : bit (j + c) (first j mask low high) ≡ bit c high
    first_1 = omega (arith, first_is (j + c) l, up_high c l, next c, bit_lt c high)

    pub second_0 : bit c (second j mask low high) ≡ bit (j + c) low
    second_0 = omega (arith, second_is c (omega arith), m.digit c (omega arith), bit_lt (j + c) low)

    pub second_1 : bit (j + c) (second j mask low high) ≡ bit (j + c) high
    second_1 = omega (arith, second_is (j + c) l, m.digit (j + c) l, next c, bit_lt (j + c) high)

  -- both are words
  pub first_small : first j mask low high < 2 ^ 64
  first_small =
      or_lt 64 (bit_and low mask) ((bit_and high mask * 2 ^ j) % 2 ^ 64)
      (omega (arith, and_le_r low mask))
      (mod-lt (bit_and high mask * 2 ^ j) (pow_pos 64))

  pub second_small : second j mask low high < 2 ^ 64
  second_small =
      or_lt 64 (bit_and (low / 2 ^ j) mask) (bit_and high (18446744073709551615 - mask))
      (omega (arith, and_le_r (low / 2 ^ j) mask))
      (omega (arith, and_le_r high (18446744073709551615 - mask)))
