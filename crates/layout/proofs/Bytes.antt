-- Laws of numbers and arrays as bytes; a number has the least significant byte first. Assumes nothing.
use Prim.Native.Nat.{ℕ, zero, suc, ◌+◌, ◌*◌, ◌/◌, ◌%◌, ◌^◌, ◌≤◌, ◌<◌}
use mathlib.Core.Path.{◌≡◌, refl, ap, ap₂, sym, ◌∙◌}
use mathlib.Core.List.{List, [], ◌∷◌}
use native.Mathlib.Omega.{arith}
use lib.Pow.{pow-add}
use lib.ListN.{length, get_or, take, drop, set, length-append, length-set, length-drop}
use lib.Seq.{ext_get_or, length-take-le, get_or-take, get_or-drop}
use Rattle.std.specs.Int.{w32, w64, byte_at, bytes_low_first, to_le_bytes, from_le_bytes}
use Rattle.std.proofs.Math.Nat.{div-div-eq-div-mul}
use Rattle.lists.proofs.Filled.{filled}
use Rattle.layout.specs.Sizes.{word_size}
use Rattle.layout.specs.Layout.{little_endian_at, little_endian_bytes, word_at, word_bytes, words_at, words_bytes, bytes_at}

-- one byte more, from below
pub number_more : (bytes : List ℕ) (at n : ℕ) → little_endian_at bytes at (suc n) ≡ get_or bytes at 0 + 256 * little_endian_at bytes (suc at) n
unfolding little_endian_at
number_more bytes at n = refl

pub number_none : (bytes : List ℕ) (at : ℕ) → little_endian_at bytes at 0 ≡ 0
unfolding little_endian_at
number_none bytes at = refl

pub number_lt : (bytes : List ℕ) → ((k : ℕ) → get_or bytes k 0 < 256) → (n at : ℕ) → little_endian_at bytes at n < 2 ^ (8 * n)
number_lt bytes small zero at = rw (number_none bytes at) (omega arith)
number_lt bytes small (suc n) at =
    let e : 8 * suc n ≡ 8 * n + 8 = omega arith in
    rw (number_more bytes at n, e) (omega (arith, number_lt bytes small n (suc at), small at, pow-add 2 (8 * n) 8))

-- four bytes, written out, and what the bytes behind them write
number_after : (bytes : List ℕ) (at n : ℕ)
    → little_endian_at bytes at (suc (suc (suc (suc n))))
    ≡ get_or bytes at 0
    + get_or bytes (at + 1) 0 * 256
    + get_or bytes (at + 2) 0 * 65536
    + get_or bytes (at + 3) 0 * 16777216
    + little_endian_at bytes (at + 4) n * 4294967296
number_after bytes at n =
    let a : at + 1 ≡ suc at = omega arith in
    let b : at + 2 ≡ suc (suc at) = omega arith in
    let c : at + 3 ≡ suc (suc (suc at)) = omega arith in
    let d : at + 4 ≡ suc (suc (suc (suc at))) = omega arith in
    rw (a, b, c, d)
    (omega (
      arith,
      number_more bytes at (suc (suc (suc n))),
      number_more bytes (suc at) (suc (suc n)),
      number_more bytes (suc (suc at)) (suc n),
      number_more bytes (suc (suc (suc at))) n,
    ))

-- the number of four bytes
pub number_four : (bytes : List ℕ) (at : ℕ)
    → little_endian_at bytes at 4 ≡ get_or bytes at 0 + get_or bytes (at + 1) 0 * 256 + get_or bytes (at + 2) 0 * 65536 + get_or bytes (at + 3) 0 * 16777216
number_four bytes at = omega (arith, number_after bytes at 0, number_none bytes (at + 4))

-- ---- how many bytes

pub bytes_length : (n number : ℕ) → length (little_endian_bytes n number) ≡ n
unfolding little_endian_bytes
bytes_length zero number = refl
bytes_length (suc n) number = ap suc (bytes_length n (number / 256))

pub words_bytes_length : (ws : List ℕ) → length (words_bytes ws) ≡ word_size * length ws
unfolding words_bytes
words_bytes_length [] = refl
words_bytes_length (w ∷ ws) = length-append (word_bytes w) (words_bytes ws) ∙ omega (arith, bytes_length word_size w, words_bytes_length ws)

pub part_length : (bytes : List ℕ) (at n : ℕ) → at + n ≤ length bytes → length (bytes_at bytes at n) ≡ n
part_length bytes at n h = length-take-le n (drop at bytes) (simp length-drop (omega arith))

pub words_length : (bytes : List ℕ) (n at : ℕ) → length (words_at bytes at n) ≡ n
unfolding words_at
words_length bytes zero at = refl
words_length bytes (suc n) at = ap suc (words_length bytes n (at + word_size))

-- ---- the bytes of a number, as std writes them

byte_is : (i number : ℕ) → byte_at i number ≡ number / 256 ^ i % 256
byte_is zero number = omega arith
byte_is (suc i) number = refl

low_first : (i n number : ℕ) → bytes_low_first i n number ≡ little_endian_bytes n (number / 256 ^ i)
unfolding little_endian_bytes
low_first i zero number = refl
low_first i (suc n) number =
    let p : 256 ^ suc i ≡ 256 ^ i * 256 = omega arith in
    let e : number / 256 ^ suc i ≡ number / 256 ^ i / 256 = ap (λ (x : ℕ). number / x) p ∙ sym (div-div-eq-div-mul number (256 ^ i) 256) in
    ap₂ (λ (x : ℕ) (xs : List ℕ). x ∷ xs) (byte_is i number) (low_first (suc i) n number ∙ ap (little_endian_bytes n) e)

front_bytes : (n m number : ℕ) → n ≤ m → take n (little_endian_bytes m number) ≡ little_endian_bytes n number
unfolding little_endian_bytes
front_bytes zero m number h = refl
front_bytes (suc n) zero number h = absurd (omega arith)
front_bytes (suc n) (suc m) number h = ap (λ (xs : List ℕ). number % 256 ∷ xs) (front_bytes n m (number / 256) (omega arith))

pub number_front : (n number : ℕ) → n ≤ word_size → take n (to_le_bytes w64 number) ≡ little_endian_bytes n number
number_front n number h =
    let one : number / 256 ^ 0 ≡ number = omega arith in
    ap (take n) (low_first 0 word_size number ∙ ap (little_endian_bytes word_size) one) ∙ front_bytes n word_size number h

-- ---- an array that is filled from the bytes, element by element, whatever its length

-- the first i places are filled
pub record Filled (f : ℕ → ℕ) (size i : ℕ) (r : List ℕ) : Type 0 where
  pub size_is : length r ≡ size
  pub first : (k : ℕ) → k < i → get_or r k 0 ≡ f k

pub fill_start : {f : ℕ → ℕ} (r : List ℕ) → Filled f (length r) 0 r
fill_start r = record { size_is = refl; first = λ k h. absurd (omega arith) }

pub fill_turn : {f : ℕ → ℕ} {size i : ℕ} {r : List ℕ} {v : ℕ} → i < size → v ≡ f i → Filled f size i r → Filled f size (i + 1) (set r i v)
fill_turn {f} {size} {i} {r} {v} h e x =
    record { size_is = length-set r i v ∙ x.size_is; first = filled (λ k y. y ≡ f k) r i v (omega (arith, x.size_is)) x.first e }

fill_end : {f : ℕ → ℕ} {size i : ℕ} {r : List ℕ} (t : List ℕ) → size ≤ i → Filled f size i r → length t ≡ size
    → ((k : ℕ) → k < size → get_or t k 0 ≡ f k) → r ≡ t
fill_end {r = r} t h x l same =
    ext_get_or 0 r t (x.size_is ∙ sym l) (λ k less. x.first k (omega (arith, x.size_is)) ∙ sym (same k (omega (arith, x.size_is))))

-- by bytes
pub part_at : (bytes : List ℕ) (at n k : ℕ) → k < n → get_or (bytes_at bytes at n) k 0 ≡ get_or bytes (at + k) 0
part_at bytes at n k h = get_or-take n (drop at bytes) k 0 h ∙ get_or-drop at bytes k 0

-- half a word and a word, as std reads them from an array
four_read : (xs : List ℕ)
    → from_le_bytes w32 xs ≡ get_or xs 0 0 + get_or xs 1 0 * 256 + get_or xs 2 0 * 65536 + get_or xs 3 0 * 16777216
four_read xs = refl

part_is : (bytes : List ℕ) (at n k place : ℕ) → k < n → at + k ≡ place → get_or (bytes_at bytes at n) k 0 ≡ get_or bytes place 0
part_is bytes at n k place h e = part_at bytes at n k h ∙ ap (λ (i : ℕ). get_or bytes i 0) e

eight_read : (xs : List ℕ)
    → from_le_bytes w64 xs
    ≡ get_or xs 0 0
    + get_or xs 1 0 * 256
    + get_or xs 2 0 * 65536
    + get_or xs 3 0 * 16777216
    + get_or xs 4 0 * 4294967296
    + get_or xs 5 0 * 1099511627776
    + get_or xs 6 0 * 281474976710656
    + get_or xs 7 0 * 72057594037927936
eight_read xs = refl

pub half_read : (bytes : List ℕ) (at : ℕ) → from_le_bytes w32 (bytes_at bytes at 4) ≡ little_endian_at bytes at 4
half_read bytes at =
    four_read (bytes_at bytes at 4)
    ∙ omega (
      arith,
      number_four bytes at,
      part_is bytes at 4 0 at (omega arith) (omega arith),
      part_at bytes at 4 1 (omega arith),
      part_at bytes at 4 2 (omega arith),
      part_at bytes at 4 3 (omega arith),
    )

pub word_read : (bytes : List ℕ) (at : ℕ) → from_le_bytes w64 (bytes_at bytes at 8) ≡ little_endian_at bytes at 8
word_read bytes at =
    eight_read (bytes_at bytes at 8)
    ∙ omega (
      arith,
      number_after bytes at 4,
      number_four bytes (at + 4),
      part_is bytes at 8 0 at (omega arith) (omega arith),
      part_at bytes at 8 1 (omega arith),
      part_at bytes at 8 2 (omega arith),
      part_at bytes at 8 3 (omega arith),
      part_is bytes at 8 4 (at + 4) (omega arith) (omega arith),
      part_is bytes at 8 5 (at + 4 + 1) (omega arith) (omega arith),
      part_is bytes at 8 6 (at + 4 + 2) (omega arith) (omega arith),
      part_is bytes at 8 7 (at + 4 + 3) (omega arith) (omega arith),
    )

-- by words
words-at : (bytes : List ℕ) (n at k : ℕ) → k < n → get_or (words_at bytes at n) k 0 ≡ word_at bytes (at + word_size * k)
unfolding words_at
words-at bytes zero at k h = absurd (omega arith)
words-at bytes (suc n) at zero h = let e : at + word_size * 0 ≡ at = omega arith in rw e
words-at bytes (suc n) at (suc k) h =
    let e : at + word_size * suc k ≡ at + word_size + word_size * k = omega arith in
    rw e (words-at bytes n (at + word_size) k (omega arith))

pub words_end : (bytes : List ℕ) (at : ℕ) {n i : ℕ} {r : List ℕ} → n ≤ i → Filled (λ k. word_at bytes (at + word_size * k)) n i r → r ≡ words_at bytes at n
words_end bytes at {n} h x = fill_end (words_at bytes at n) h x (words_length bytes n at) (λ k l. words-at bytes n at k l)
