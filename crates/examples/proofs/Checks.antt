-- Checks: a check computes to `done` with the proof of what it checks, or to `failed`. Assumes nothing.
use mathlib.Core.Path.{◌≡◌, subst}
use mathlib.Core.Bool.{Bool, true, false}
use mathlib.Core.Logic.{◌⊎◌, inl, inr}
use Prim.Native.Nat.{ℕ, zero, suc, ◌≤◌, ◌<◌}
use native.Mathlib.Nat.{not-suc-le-zero}
use native.Mathlib.Omega.{arith}
use native.Mathlib.Decide.{dec_lt}
use lib.Dec.{T, eqb, leb, eqb→eq, leb→le, le→leb}

pub data Check (A : Type 0) : Type 0 where
  done : A → Check A
  failed : Check A

abbrev pub passed : {A : Type 0} → Check A → Bool
passed (done a) = true
passed failed = false

-- what a check that passes has checked
pub checked : {A : Type 0} (c : Check A) → T (passed c) → A
checked (done a) t = a
checked failed t = absurd t

abbrev pub map : {A B : Type 0} → (A → B) → Check A → Check B
map f (done a) = done (f a)
map f failed = failed

abbrev pub then : {A B : Type 0} → Check A → (A → Check B) → Check B
then (done a) f = f a
then failed f = failed

abbrev pub both : {A B : Type 0} → Check A → Check B → Check (A × B)
both (done a) (done b) = done (a, b)
both (done a) failed = failed
both failed b = failed

abbrev pub either : {A B : Type 0} → Check A → Check B → Check (A ⊎ B)
either (done a) b = done (inl a)
either failed (done b) = done (inr b)
either failed failed = failed

-- by a test and what it means
abbrev pub by : {A : Type 0} (b : Bool) → (T b → A) → Check A
by true f = done (f tt)
by false f = failed

abbrev pub le? : (a b : ℕ) → Check (a ≤ b)
le? a b = by (leb a b) (leb→le a b)

abbrev pub eq? : (a b : ℕ) → Check (a ≡ b)
eq? a b = by (eqb a b) (eqb→eq a b)

abbrev when : {A : Type 0} (b : Bool) → Check A → Check (T b → A)
when true c = map (λ a t. a) c
when false c = done (λ t. absurd t)

-- needed only where a ≤ b
abbrev pub where_le : {A : Type 0} (a b : ℕ) → Check A → Check (a ≤ b → A)
where_le a b c = map (λ f h. f (le→leb a b h)) (when (leb a b) c)

-- at some number below n
pub record Below (A : ℕ → Type 0) (n : ℕ) : Type 0 where
  pub at : ℕ
  pub small : at < n
  pub holds : A at

module _ {A : ℕ → Type 0} where
  pub below_suc : (n : ℕ) → A n → ((k : ℕ) → k < n → A k) → (k : ℕ) → k < suc n → A k
  below_suc n a f k h =
      elim (dec_lt k n) [
        | yes d ↦ f k d
        | no d ↦ let e : n ≡ k = omega arith in subst A e a
      ]

  abbrev pub all_below : ((k : ℕ) → Check (A k)) → (n : ℕ) → Check ((k : ℕ) → k < n → A k)
  all_below c zero = done (λ k h. absurd (not-suc-le-zero h))
  all_below c (suc n) = map (λ e. below_suc n e.0 e.1) (both (c n) (all_below c n))

  pub some_suc : (n : ℕ) → A n ⊎ Below A n → Below A (suc n)
  some_suc n (inl a) = record { at = n; small = omega arith; holds = a }
  some_suc n (inr b) = let s = b.small in record { at = b.at; small = omega arith; holds = b.holds }

  abbrev pub some_below : ((k : ℕ) → Check (A k)) → (n : ℕ) → Check (Below A n)
  some_below c zero = failed
  some_below c (suc n) = map (some_suc n) (either (c n) (some_below c n))
