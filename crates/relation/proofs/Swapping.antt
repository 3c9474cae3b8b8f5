-- The loop that exchanges one digit of the rows' numbers with one of the bits', and the six such rounds that turn the rows round. Assumes nothing.
use mathlib.Core.Path.{◌≡◌, refl, ap₂, sym, ◌∙◌}
use mathlib.Core.Bool.{Bool, true, false, ◌&&◌}
use mathlib.Core.List.{List}
use Prim.Native.Nat.{ℕ, zero, suc, ◌+◌, ◌-◌, ◌*◌, ◌/◌, ◌%◌, ◌^◌, ◌≤◌, ◌<◌}
use native.Mathlib.Omega.{arith}
use native.Mathlib.Decide.{ℕ_discrete, dec_lt}
use lib.Dec.{T, eqb, eqb→eq}
use lib.ListN.{length, get_or, set, replicate, length-set, length-replicate, get_or-eq_default}
use Rattle.stateset.specs.Set.{bit, In}
use Rattle.stateset.proofs.Bits.{empty, in_lt}
use Rattle.relation.specs.Relation.{Row, Rows, Masks, Swapped}
use Rattle.lists.proofs.Filled.{filled}
use Rattle.relation.proofs.Shifting.{first, second, first_0, first_1, first_small, second_0, second_1, second_small}

-- the word w is what a round makes of word n
pub record Word (j : ℕ) (old : List ℕ) (n w : ℕ) : Type 0 where
  pub small : w < 2 ^ 64
  pub each : (i c d x : ℕ) → n ≡ 2 * i + x → c / j % 2 ≡ 0 → j + c < 64 → d < 2 → x < 2
      → bit (d * j + c) w ≡ bit (x * j + c) (get_or old (32 * d + i) 0)

-- the loop has done the words below n
pub record Swapping (j : ℕ) (old out : List ℕ) (n : ℕ) : Type 0 where
  pub size : length out ≡ 64
  pub each : (k : ℕ) → k < n → Word j old k (get_or out k 0)

pub swapping_start : (j : ℕ) (old : List ℕ) → Swapping j old (replicate 64 0) 0
swapping_start j old = record { size = length-replicate {A = ℕ} 64 0; each = λ k l. absurd (omega arith) }

pub swapping_end : (j : ℕ) (old out : List ℕ) (i : ℕ) → 32 ≤ i → Swapping j old out (2 * i) → Swapped j old out
swapping_end j old out i l s = record {
  size = s.size;
  small = λ k h. (s.each k (omega arith)).small;
  each = λ k c d x h z g hd hx. (s.each (2 * k + x) (omega arith)).each k c d x refl z g hd hx;
}

-- one more word
more : (j : ℕ) (old out : List ℕ) (n v : ℕ) → n < 64 → Swapping j old out n → Word j old n v → Swapping j old (set out n v) (n + 1)
more j old out n v l s w = record {
  size = simp length-set s.size;
  each = filled (Word j old) out n v (omega (arith, s.size)) s.each w;
}

-- a digit of a new word, by way of its numbers
moved : (old : List ℕ) (w p q r p' q' r' : ℕ) → p ≡ p' → q ≡ q' → r ≡ r' → bit p' w ≡ bit q' (get_or old r' 0) → bit p w ≡ bit q (get_or old r 0)
moved old w p q r p' q' r' e f g t = rw (e, f, g) t

-- one turn of the loop
module _ (j mask : ℕ) (old out : List ℕ) (i : ℕ) (pos : 0 < j) (small : mask < 2 ^ 64) (m : Masks j mask) (l : i < 32) where
  abbrev low : ℕ
  low = get_or old i 0

  abbrev high : ℕ
  high = get_or old (32 + i) 0

  first_word : Word j old (2 * i) (first j mask low high)
  first_word = record { small = first_small j mask low high pos small m; each = go }
    where
      go : (k c d x : ℕ) → 2 * i ≡ 2 * k + x → c / j % 2 ≡ 0 → j + c < 64 → d < 2 → x < 2
          → bit (d * j + c) (first j mask low high) ≡ bit (x * j + c) (get_or old (32 * d + k) 0)
      go k c zero zero e z h hd hx = moved old _ _ _ _ c c i (omega arith) (omega arith) (omega arith) (first_0 j mask low high pos small m c z h)
      go k c (suc zero) zero e z h hd hx = moved old _ _ _ _ (j + c) c (32 + i) (omega arith) (omega arith) (omega arith)
          (first_1 j mask low high pos small m c z h)
      go k c (suc (suc d)) zero e z h hd hx = absurd (omega arith)
      go k c d (suc x) e z h hd hx = absurd (omega arith)

  second_word : Word j old (2 * i + 1) (second j mask low high)
  second_word = record { small = second_small j mask low high pos small m; each = go }
    where
      go : (k c d x : ℕ) → 2 * i + 1 ≡ 2 * k + x → c / j % 2 ≡ 0 → j + c < 64 → d < 2 → x < 2
          → bit (d * j + c) (second j mask low high) ≡ bit (x * j + c) (get_or old (32 * d + k) 0)
      go k c zero (suc zero) e z h hd hx = moved old _ _ _ _ c (j + c) i (omega arith) (omega arith) (omega arith) (second_0 j mask low high pos small m c z h)
      go k c (suc zero) (suc zero) e z h hd hx = moved old _ _ _ _ (j + c) (j + c) (32 + i) (omega arith) (omega arith) (omega arith)
          (second_1 j mask low high pos small m c z h)
      go k c (suc (suc d)) (suc zero) e z h hd hx = absurd (omega arith)
      go k c d zero e z h hd hx = absurd (omega arith)
      go k c d (suc (suc x)) e z h hd hx = absurd (omega arith)

  pub swapping_turn : Swapping j old out (2 * i) → Swapping j old (set (set out (2 * i) (first j mask low high)) (2 * i + 1) (second j mask low high))
      (2 * (i + 1))
  swapping_turn s =
      let e : 2 * (i + 1) ≡ 2 * i + 1 + 1 = omega arith in
      rw e (more j old (set out (2 * i) (first j mask low high)) (2 * i + 1) (second j mask low high) (omega arith)
      (more j old out (2 * i) (first j mask low high) (omega arith) s first_word) second_word)

-- whether the mask has the right digits below n
abbrev digits : (n j mask : ℕ) → Bool
digits zero j mask = true
digits (suc n) j mask = digits n j mask && eqb (bit n mask) (1 - n / j % 2)

both : (a b : Bool) → T (a && b) → T a × T b
both true true t = (tt, tt)
both true false t = absurd t
both false b t = absurd t

digits_are : (n j mask : ℕ) → T (digits n j mask) → (c : ℕ) → c < n → bit c mask ≡ 1 - c / j % 2
digits_are zero j mask t c l = absurd (omega arith)
digits_are (suc n) j mask t c l =
    let parts = both (digits n j mask) (eqb (bit n mask) (1 - n / j % 2)) t in
    go (ℕ_discrete c n) (eqb→eq (bit n mask) (1 - n / j % 2) parts.1) (digits_are n j mask parts.0 c)
  where
    go : Dec (c ≡ n) → bit n mask ≡ 1 - n / j % 2 → (c < n → bit c mask ≡ 1 - c / j % 2) → bit c mask ≡ 1 - c / j % 2
    go (yes e) last before = rw e last
    go (no k) last before = before (omega arith)

masks : (j mask : ℕ) → T (digits 64 j mask) → Masks j mask
masks j mask t = record { digit = digits_are 64 j mask t }

-- the masks of the six rounds: the checker computes their digits
pub masks_32 : Masks 32 0x0000_0000_ffff_ffff
unfolding bit
masks_32 = masks 32 0x0000_0000_ffff_ffff tt

pub masks_16 : Masks 16 0x0000_ffff_0000_ffff
unfolding bit
masks_16 = masks 16 0x0000_ffff_0000_ffff tt

pub masks_8 : Masks 8 0x00ff_00ff_00ff_00ff
unfolding bit
masks_8 = masks 8 0x00ff_00ff_00ff_00ff tt

pub masks_4 : Masks 4 0x0f0f_0f0f_0f0f_0f0f
unfolding bit
masks_4 = masks 4 0x0f0f_0f0f_0f0f_0f0f tt

pub masks_2 : Masks 2 0x3333_3333_3333_3333
unfolding bit
masks_2 = masks 2 0x3333_3333_3333_3333 tt

pub masks_1 : Masks 1 0x5555_5555_5555_5555
unfolding bit
masks_1 = masks 1 0x5555_5555_5555_5555 tt

-- the rounds for the weights from b up are done: the upper digits of the numbers, v and y, have changed places (a * b is 64)
record Between (a b : ℕ) (rows m : List ℕ) : Type 0 where
  each : (u v y z : ℕ) → u < b → v < a → y < a → z < b → bit (y * b + z) (get_or m (u * a + v) 0) ≡ bit (v * b + z) (get_or rows (y * b + u) 0)

-- what one more round, for the weight j, needs of the numbers: linear for each of the six
abbrev Fits : (a b j u v y z : ℕ) → Type 0
Fits a b j u v y z =
    (u * a + v / 2 < 32)
    × ((y / 2 * b + z) / j % 2 ≡ 0)
    × (j + (y / 2 * b + z) < 64)
    × (y % 2 * j + u < b)
    × (v / 2 < a)
    × (y / 2 < a)
    × (v % 2 * j + z < b)
    × (y * j + z ≡ y % 2 * j + (y / 2 * b + z))
    × (u * (2 * a) + v ≡ 2 * (u * a + v / 2) + v % 2)
    × (v % 2 * j + (y / 2 * b + z) ≡ y / 2 * b + (v % 2 * j + z))
    × (32 * (y % 2) + (u * a + v / 2) ≡ (y % 2 * j + u) * a + v / 2)
    × (v / 2 * b + (v % 2 * j + z) ≡ v * j + z)
    × (y / 2 * b + (y % 2 * j + u) ≡ y * j + u)

module _ (a b j : ℕ) (rows m new : List ℕ) where
  one_more : ((u v y z : ℕ) → u < j → v < 2 * a → y < 2 * a → z < j → Fits a b j u v y z)
      → Swapped j m new → Between a b rows m → Between (2 * a) j rows new
  one_more f s t = record { each = λ u v y z hu hv hy hz. go u v y z (f u v y z hu hv hy hz) }
    where
      go : (u v y z : ℕ) → Fits a b j u v y z → bit (y * j + z) (get_or new (u * (2 * a) + v) 0) ≡ bit (v * j + z) (get_or rows (y * j + u) 0)
      go u v y z (h1, h2, h3, h4, h5, h6, h7, e1, e2, e3, e4, e5, e6) =
          ap₂ (λ (p q : ℕ). bit p (get_or new q 0)) e1 e2
          ∙ s.each (u * a + v / 2) (y / 2 * b + z) (y % 2) (v % 2) h1 h2 h3 (omega arith) (omega arith)
          ∙ ap₂ (λ (p q : ℕ). bit p (get_or m q 0)) e3 e4
          ∙ t.each (y % 2 * j + u) (v / 2) (y / 2) (v % 2 * j + z) h4 h5 h6 h7
          ∙ ap₂ (λ (p q : ℕ). bit p (get_or rows q 0)) e5 e6

-- before the first round
begin : (rows : List ℕ) → Between 1 64 rows rows
begin rows = record {
  each = λ u v y z hu hv hy hz. ap₂ (λ (p q : ℕ). bit p (get_or rows q 0)) {x = y * 64 + z} {y = v * 64 + z} {u = u * 1 + v} {v = y * 64 + u} (omega arith)
      (omega arith);
}

-- THE LAW: six rounds turn the rows round
module _ (rows m1 m2 m3 m4 m5 m6 : List ℕ) where
  pub six_rounds : length rows ≡ 64 → Swapped 32 rows m1 → Swapped 16 m1 m2 → Swapped 8 m2 m3 → Swapped 4 m3 m4 → Swapped 2 m4 m5 → Swapped 1 m5 m6
      → Rows m6 (λ q p. Row rows p q)
  six_rounds full s1 s2 s3 s4 s5 s6 = record { size = s6.size; each = λ q l. record { sound = sound q l; whole = whole q l } }
    where
      all : Between 64 1 rows m6
      all =
          one_more 32 2 1 rows m5 m6 (λ u v y z hu hv hy hz. omega arith) s6
          (one_more 16 4 2 rows m4 m5 (λ u v y z hu hv hy hz. omega arith) s5
          (one_more 8 8 4 rows m3 m4 (λ u v y z hu hv hy hz. omega arith) s4
          (one_more 4 16 8 rows m2 m3 (λ u v y z hu hv hy hz. omega arith) s3
          (one_more 2 32 16 rows m1 m2 (λ u v y z hu hv hy hz. omega arith) s2
          (one_more 1 64 32 rows rows m1 (λ u v y z hu hv hy hz. omega arith) s1 (begin rows))))))

      turned : (q p : ℕ) → q < 64 → p < 64 → bit p (get_or m6 q 0) ≡ bit q (get_or rows p 0)
      turned q p hq hp =
          ap₂ (λ (x y : ℕ). bit x (get_or m6 y 0)) {x = p} {y = p * 1 + 0} {u = q} {v = 0 * 64 + q} (omega arith) (omega arith)
          ∙ all.each 0 q p 0 (omega arith) hq hp (omega arith)
          ∙ ap₂ (λ (x y : ℕ). bit x (get_or rows y 0)) {x = q * 1 + 0} {y = q} {u = p * 1 + 0} {v = p} (omega arith) (omega arith)

      sound : (q : ℕ) → q < 64 → (p : ℕ) → In p (get_or m6 q 0) → In q (get_or rows p 0)
      sound q l p i = sym (turned q p l (in_lt 64 p (get_or m6 q 0) (s6.small q l) i)) ∙ i

      inside : (q p : ℕ) → In q (get_or rows p 0) → Dec (p < 64) → p < 64
      inside q p i (yes h) = h
      inside q p i (no n) = absurd (empty q (get_or rows p 0) (get_or-eq_default rows 0 (omega arith)) i)

      whole : (q : ℕ) → q < 64 → (p : ℕ) → In q (get_or rows p 0) → In p (get_or m6 q 0)
      whole q l p i = turned q p l (inside q p i (dec_lt p 64)) ∙ i
