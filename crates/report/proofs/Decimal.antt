-- Laws of numbers in base ten.
use Prim.Native.Nat.{ℕ, zero, suc, ◌+◌, ◌-◌, ◌*◌, ◌/◌, ◌%◌, ◌^◌, ◌≤◌, ◌<◌}
use native.Mathlib.Nat.{pow-suc}
use native.Mathlib.Omega.{arith}
use native.Mathlib.Decide.{dec_lt}
use mathlib.Core.Path.{◌≡◌, refl, sym, ap, ◌∙◌}
use mathlib.Core.Bool.{Bool, true, false, cond}
use mathlib.Core.List.{List, [], ◌∷◌, ◌++◌, foldl-append}
use lib.Dec.{ltb}
use lib.ListN.{length, get_or, length-append, get_or-append}
use lib.Seq.{get_or_at}
use borrow.Author.Tests.{lt-ltb, le-ltb, ltb-true, ltb-false}
use Rattle.report.specs.Text.{digits, decimal, value_of, BaseTen}

-- as many digits as are allowed
length_digits : (most n : ℕ) → length (digits most n) ≤ most
unfolding digits
length_digits zero n = omega arith
length_digits (suc f) n = by_test (ltb n 10) (length_digits f (n / 10))
  where
    by_test : (b : Bool) → length (digits f (n / 10)) ≤ f → length (cond b ((48 + n) ∷ []) (digits f (n / 10) ++ ((48 + n % 10) ∷ []))) ≤ suc f
    by_test true h = omega arith
    by_test false h = omega (arith, length-append (digits f (n / 10)) ((48 + n % 10) ∷ []))

-- one more digit allowed changes nothing where there are enough
more : (f n : ℕ) → n < 10 ^ suc f → digits (suc f) n ≡ digits (suc (suc f)) n
unfolding digits
more zero n h = rw (lt-ltb n 10)
more (suc f) n h = ap (λ (l : List ℕ). cond (ltb n 10) ((48 + n) ∷ []) (l ++ ((48 + n % 10) ∷ []))) (more f (n / 10) (omega (arith, pow-suc 10 (suc f))))

pub decimal_one : (n : ℕ) → n < 10 → decimal n ≡ (48 + n % 10) ∷ []
unfolding decimal digits
decimal_one n h = rw (lt-ltb n 10) (ap (λ (k : ℕ). (48 + k) ∷ []) (omega arith))

pub decimal_more : (n : ℕ) → 10 ≤ n → n < 2 ^ 32 → decimal n ≡ decimal (n / 10) ++ ((48 + n % 10) ∷ [])
unfolding decimal digits
decimal_more n h small = rw (le-ltb n 10) (ap (λ (l : List ℕ). l ++ ((48 + n % 10) ∷ [])) (more 8 (n / 10) (omega arith)))

pub decimal_short : (n : ℕ) → n < 2 ^ 32 → length (decimal (n / 10)) ≤ 9
unfolding decimal
decimal_short n small = rw (← more 8 (n / 10) (omega arith)) (length_digits 9 (n / 10))

pub decimal_length : (n : ℕ) → length (decimal n) ≤ 10
unfolding decimal
decimal_length n = length_digits 10 n

-- the digits read back as the number
reads_digits : (f n : ℕ) → n < 10 ^ suc f → value_of (digits (suc f) n) ≡ n
unfolding digits
reads_digits zero n h = rw (lt-ltb n 10) (omega arith)
reads_digits (suc f) n h = by_test (ltb n 10) refl (λ (s : n / 10 < 10 ^ suc f). reads_digits f (n / 10) s)
  where
    by_test : (b : Bool) → ltb n 10 ≡ b → (n / 10 < 10 ^ suc f → value_of (digits (suc f) (n / 10)) ≡ n / 10)
        → value_of (cond b ((48 + n) ∷ []) (digits (suc f) (n / 10) ++ ((48 + n % 10) ∷ []))) ≡ n
    by_test true e rest = omega arith
    by_test false e rest =
        foldl-append (λ (v d : ℕ). 10 * v + (d - 48)) 0 (digits (suc f) (n / 10)) ((48 + n % 10) ∷ [])
        ∙ omega (arith, rest (omega (arith, pow-suc 10 (suc f))))

reads_back : (n : ℕ) → n < 2 ^ 32 → value_of (decimal n) ≡ n
unfolding decimal
reads_back n h = reads_digits 9 n (omega arith)

some_digits : (f n : ℕ) → 0 < length (digits (suc f) n)
unfolding digits
some_digits f n = by_test (ltb n 10)
  where
    by_test : (b : Bool) → 0 < length (cond b ((48 + n) ∷ []) (digits f (n / 10) ++ ((48 + n % 10) ∷ [])))
    by_test true = omega arith
    by_test false = omega (arith, length-append (digits f (n / 10)) ((48 + n % 10) ∷ []))

-- one more digit behind digits
digit_more : (l : List ℕ) (d : ℕ) → ((i : ℕ) → i < length l → (48 ≤ get_or l i 0) × (get_or l i 0 ≤ 57)) → 48 ≤ d → d ≤ 57 → (i : ℕ) → i < length (l ++ (d ∷ []))
    → (48 ≤ get_or (l ++ (d ∷ [])) i 0) × (get_or (l ++ (d ∷ [])) i 0 ≤ 57)
digit_more l d all low high i h = go (dec_lt i (length l))
  where
    go : Dec (i < length l) → (48 ≤ get_or (l ++ (d ∷ [])) i 0) × (get_or (l ++ (d ∷ [])) i 0 ≤ 57)
    go (yes a) = rw (get_or-append l (d ∷ []) 0 i a) (all i a)
    go (no a) =
        let last : length l ≡ i = omega (arith, length-append l (d ∷ [])) in
        rw (get_or_at l d [] 0 i last) (low, high)

all_digits : (f n i : ℕ) → i < length (digits f n) → (48 ≤ get_or (digits f n) i 0) × (get_or (digits f n) i 0 ≤ 57)
unfolding digits
all_digits zero n i h = absurd (omega arith)
all_digits (suc f) n i h = by_test (ltb n 10) refl (all_digits f (n / 10)) h
  where
    by_test : (b : Bool) → ltb n 10 ≡ b → ((j : ℕ) → j < length (digits f (n / 10)) → (48 ≤ get_or (digits f (n / 10)) j 0) × (get_or (digits f (n / 10)) j 0 ≤ 57))
        → i < length (cond b ((48 + n) ∷ []) (digits f (n / 10) ++ ((48 + n % 10) ∷ [])))
        → (48 ≤ get_or (cond b ((48 + n) ∷ []) (digits f (n / 10) ++ ((48 + n % 10) ∷ []))) i 0)
        × (get_or (cond b ((48 + n) ∷ []) (digits f (n / 10) ++ ((48 + n % 10) ∷ []))) i 0 ≤ 57)
    by_test true e rest l = digit_more [] (48 + n) (λ j k. absurd (omega arith)) (omega arith) (omega (arith, ltb-true n 10 e)) i l
    by_test false e rest l = digit_more (digits f (n / 10)) (48 + n % 10) rest (omega arith) (omega arith) i l

-- a number begins with a digit
pub begins_digit : (n : ℕ) → (0 < length (decimal n)) × (get_or (decimal n) 0 0 ≤ 57)
unfolding decimal
begins_digit n = (some_digits 9 n, (all_digits 10 n 0 (some_digits 9 n)).1)

-- the first digit of a number above 9 is that of its tenth
first_digit : (f n : ℕ) → n < 10 ^ suc f → get_or (digits (suc f) n) 0 0 ≡ 48 → n ≡ 0
unfolding digits
first_digit zero n h e = omega (arith, rw (lt-ltb n 10) at e)
first_digit (suc f) n h e = by_test (ltb n 10) refl (first_digit f (n / 10) (omega (arith, pow-suc 10 (suc f)))) e
  where
    by_test : (b : Bool) → ltb n 10 ≡ b → (get_or (digits (suc f) (n / 10)) 0 0 ≡ 48 → n / 10 ≡ 0)
        → get_or (cond b ((48 + n) ∷ []) (digits (suc f) (n / 10) ++ ((48 + n % 10) ∷ []))) 0 0 ≡ 48 → n ≡ 0
    by_test true t rest x = omega arith
    by_test false t rest x =
        let tenth = rest (sym (get_or-append (digits (suc f) (n / 10)) ((48 + n % 10) ∷ []) 0 0 (some_digits f (n / 10))) ∙ x) in
        absurd (omega (arith, tenth, ltb-false n 10 t))

one_zero : length (digits 10 0) ≡ 1
unfolding digits
one_zero = refl

pub in_base_ten : (n : ℕ) → n < 2 ^ 32 → BaseTen n (decimal n)
unfolding decimal
in_base_ten n h = record {
  some = some_digits 9 n;
  digit = all_digits 10 n;
  front = λ e. ap (λ (k : ℕ). length (digits 10 k))
      (first_digit 9 n (omega arith) e) ∙ one_zero;
  value = reads_back n h;
}
