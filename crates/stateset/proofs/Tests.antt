-- Tests of statements: several at once, two lists, some number below a limit. Assumes nothing.
use mathlib.Core.Path.{◌≡◌, refl, ap₂, subst}
use mathlib.Core.List.{List, [], ◌∷◌}
use mathlib.Core.Logic.{◌⊎◌, inl, inr}
use Prim.Native.Nat.{ℕ, zero, suc, ◌<◌}
use native.Mathlib.Omega.{arith}
use native.Mathlib.Decide.{ℕ_discrete}

-- tests of several statements at once
pub both : {A B : Type 0} → Dec A → Dec B → Dec (A × B)
both (yes a) (yes b) = yes (a, b)
both (yes a) (no b) = no (λ x. b x.1)
both (no a) d = no (λ x. a x.0)

pub either : {A B : Type 0} → Dec A → Dec B → Dec (A ⊎ B)
either (yes a) d = yes (inl a)
either (no a) (yes b) = yes (inr b)
either {A} {B} (no a) (no b) = no neither
  where
    neither : A ⊎ B → ⊥
    neither (inl x) = a x
    neither (inr x) = b x

-- a test of A is one of what is equivalent to A
pub test_as : {A B : Type 0} → (A → B) → (B → A) → Dec A → Dec B
test_as f g (yes a) = yes (f a)
test_as f g (no a) = no (λ b. a (g b))

-- two lists
pub same? : (a b : List ℕ) → Dec (a ≡ b)
same? [] [] = yes refl
same? [] (y ∷ b) = no (λ e. let z : ◌≡◌ {A = ℕ} 0 1 = cc in absurd (omega arith))
same? (x ∷ a) [] = no (λ e. let z : ◌≡◌ {A = ℕ} 0 1 = cc in absurd (omega arith))
same? (x ∷ a) (y ∷ b) =
    test_as (λ e. ap₂ (λ (z : ℕ) (l : List ℕ). z ∷ l) e.0 e.1) (λ e. ((let z : x ≡ y = cc in z), (let z : a ≡ b = cc in z)))
    (both (ℕ_discrete x y) (same? a b))

-- some number below n
pub record Some (P : ℕ → Type 0) (n : ℕ) : Type 0 where
  pub at : ℕ
  pub small : at < n
  pub holds : P at

pub some? : (P : ℕ → Type 0) → ((x : ℕ) → Dec (P x)) → (n : ℕ) → Dec (Some P n)
some? P test zero = no (λ x. let s = x.small in absurd (omega arith))
some? P test (suc n) = go (test n) (some? P test n)
  where
    last : (P n → ⊥) → (Some P n → ⊥) → (x : Some P (suc n)) → Dec (x.at ≡ n) → ⊥
    last here below x (yes e) = here (subst P e x.holds)
    last here below x (no e) = below (record { at = x.at; small = omega (arith, x.small, e); holds = x.holds })

    go : Dec (P n) → Dec (Some P n) → Dec (Some P (suc n))
    go (yes h) d = yes (record { at = n; small = omega arith; holds = h })
    go (no h) (yes x) = yes (record { at = x.at; small = omega (arith, x.small); holds = x.holds })
    go (no h) (no d) = no (λ x. last h d x (ℕ_discrete x.at n))
