-- Tests over lists, and what they say. Assumes nothing.
use mathlib.Core.Path.{◌≡◌, refl, sym, subst, ap₂}
use mathlib.Core.Bool.{Bool, true, false, not, ◌&&◌, ◌||◌, beq}
use mathlib.Core.List.{List, [], ◌∷◌}
use mathlib.Core.Logic.{◌⊎◌, inl, inr}
use Prim.Native.Nat.{ℕ, suc, ◌<◌}
use native.Mathlib.Omega.{arith}
use lib.Dec.{T, eqb, eqb→eq, eqb_refl}
use lib.ListN.{length, get_or}

pub and_left : (a b : Bool) → T (a && b) → T a
and_left true b t = tt
and_left false b t = t

pub and_right : (a b : Bool) → T (a && b) → T b
and_right true b t = t
and_right false b t = absurd t

pub and_both : (a b : Bool) → T a → T b → T (a && b)
and_both true b s t = t
and_both false b s t = s

pub or_cases : (a b : Bool) → T (a || b) → T a ⊎ T b
or_cases true b t = inl t
or_cases false b t = inr t

pub or_left : (a b : Bool) → T a → T (a || b)
or_left true b t = tt
or_left false b t = absurd t

pub or_right : (a b : Bool) → T b → T (a || b)
or_right true b t = tt
or_right false b t = t

pub or_assoc : (a b c : Bool) → (a || (b || c)) ≡ ((a || b) || c)
or_assoc true b c = refl
or_assoc false b c = refl

pub is_true : {a : Bool} → T a → a ≡ true
is_true {a = true} t = refl
is_true {a = false} t = absurd t

pub from_true : {a : Bool} → a ≡ true → T a
from_true e = subst T (sym e) tt

-- what is not false, and what is not denied, is true
pub unless_false : (b : Bool) → (b ≡ false → ⊥) → T b
unless_false true f = tt
unless_false false f = f refl

pub unless_not : (b : Bool) → (T (not b) → ⊥) → T b
unless_not true f = tt
unless_not false f = f tt

pub same_eq : (a b : Bool) → T (beq a b) → a ≡ b
same_eq true true t = refl
same_eq true false t = absurd t
same_eq false true t = absurd t
same_eq false false t = refl

pub eq_same : (a b : Bool) → a ≡ b → T (beq a b)
eq_same true true e = tt
eq_same true false e = subst T e tt
eq_same false true e = subst T (sym e) tt
eq_same false false e = tt

pub eq_eqb : (a b : ℕ) → a ≡ b → T (eqb a b)
eq_eqb a b e = subst (λ (n : ℕ). T (eqb a n)) e (eqb_refl a)

-- where a holds, b does
abbrev pub implies : Bool → Bool → Bool
implies true b = b
implies false b = true

pub implied : (a b : Bool) → T (implies a b) → T a → T b
implied true b t s = t
implied false b t s = absurd s

abbrev pub same_list : List ℕ → List ℕ → Bool
same_list [] [] = true
same_list [] (b ∷ m) = false
same_list (a ∷ l) [] = false
same_list (a ∷ l) (b ∷ m) = eqb a b && same_list l m

pub same-list : (l m : List ℕ) → T (same_list l m) → l ≡ m
same-list [] [] t = refl
same-list [] (b ∷ m) t = absurd t
same-list (a ∷ l) [] t = absurd t
same-list (a ∷ l) (b ∷ m) t =
    ap₂ (λ (x : ℕ) (xs : List ℕ). x ∷ xs) (eqb→eq a b (and_left (eqb a b) (same_list l m) t)) (same-list l m (and_right (eqb a b) (same_list l m) t))

same_refl : (l : List ℕ) → T (same_list l l)
same_refl [] = tt
same_refl (a ∷ l) = and_both (eqb a a) (same_list l l) (eqb_refl a) (same_refl l)

pub list_same : (l m : List ℕ) → l ≡ m → T (same_list l m)
list_same l m e = subst (λ (x : List ℕ). T (same_list l x)) e (same_refl l)

module _ {A : Type 0} where
  abbrev pub every : (A → Bool) → List A → Bool
  every f [] = true
  every f (x ∷ xs) = f x && every f xs

  abbrev pub any : (A → Bool) → List A → Bool
  any f [] = false
  any f (x ∷ xs) = f x || any f xs

  pub record Meet (f g : A → Bool) : Type 0 where
    pub item : A
    pub first : T (f item)
    pub second : T (g item)

  -- where every item passes f and some item passes g, some item passes both
  pub meet : (f g : A → Bool) (xs : List A) → T (every f xs) → T (any g xs) → Meet f g
  meet f g [] s t = absurd t
  meet f g (x ∷ xs) s t =
      elim (or_cases (g x) (any g xs) t) [
        | inl h ↦ record { item = x; first = and_left (f x) (every f xs) s; second = h }
        | inr h ↦ meet f g xs (and_right (f x) (every f xs) s) h
      ]

-- a number that is listed has a place in the list
pub any_place : (q : ℕ) (l : List ℕ) → T (any (eqb q) l) → (i : ℕ) × (i < length l) × (get_or l i 0 ≡ q)
any_place q [] t = absurd t
any_place q (x ∷ l) t =
    elim (or_cases (eqb q x) (any (eqb q) l) t) [
      | inl h ↦ (0, omega arith, sym (eqb→eq q x h))
      | inr h ↦ let w = any_place q l h in (suc w.0, omega (arith, w.1), w.2)
    ]
