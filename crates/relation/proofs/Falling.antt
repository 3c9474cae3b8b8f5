-- A loop that tries numbers below 64, from the highest down, k at a time, and shifts what it found up by k. Assumes nothing.
use mathlib.Core.Path.{◌≡◌, subst}
use mathlib.Core.List.{List}
use mathlib.Core.Logic.{◌⊎◌, inl, inr}
use Prim.Native.Nat.{ℕ, ◌+◌, ◌-◌, ◌≤◌, ◌<◌}
use native.Mathlib.Omega.{arith}
use native.Mathlib.Decide.{dec_lt}
use lib.ListN.{get_or}
use Rattle.stateset.specs.Set.{In, Is}
use Rattle.stateset.proofs.Bits.{bit_zero}
use Rattle.relation.specs.Relation.{Row, Preimage}
use Rattle.relation.proofs.Words.{Moved}

-- r has the numbers from q on that have P, each q places lower
pub record From (P : ℕ → Type 0) (q r : ℕ) : Type 0 where
  pub small : (p : ℕ) → In p r → q + p < 64
  pub sound : (p : ℕ) → In p r → P (q + p)
  pub whole : (p : ℕ) → P (q + p) → In p r

module _ (P : ℕ → Type 0) where
  pub from_start : (q : ℕ) → ((x : ℕ) → P x → x < q) → From P q 0
  from_start q below = record {
    small = λ p i. absurd (omega (arith, bit_zero p));
    sound = λ p i. absurd (omega (arith, bit_zero p));
    whole = λ p x. absurd (omega (arith, below (q + p) x));
  }

  pub from_end : (q r : ℕ) → q ≡ 0 → From P q r → Is r P
  from_end q r z f = record {
    sound = λ p i. subst P (omega (arith, z)) (f.sound p i);
    whole = λ p x. f.whole p (subst P (omega (arith, z)) x);
  }

  -- the k numbers below q, from n on: those of them that have P stand below what was found before
  module _ (k n q r up : ℕ) (e : n + k ≡ q) (le : q ≤ 64) (f : From P q r) (g : Is up (λ p. Moved k r p ⊎ ((p < k) × P (n + p)))) where
    pub from_turn : From P n up
    from_turn = record { small = λ p i. small p (g.sound p i); sound = λ p i. sound p (g.sound p i); whole = λ p x. g.whole p (whole p x (dec_lt p k)) }
      where
        small : (p : ℕ) → Moved k r p ⊎ ((p < k) × P (n + p)) → n + p < 64
        small p (inl m) = omega (arith, m.0, f.small (p - k) m.2)
        small p (inr m) = omega (arith, m.0)

        sound : (p : ℕ) → Moved k r p ⊎ ((p < k) × P (n + p)) → P (n + p)
        sound p (inl m) = subst P (omega (arith, m.0)) (f.sound (p - k) m.2)
        sound p (inr m) = m.1

        whole : (p : ℕ) → P (n + p) → Dec (p < k) → Moved k r p ⊎ ((p < k) × P (n + p))
        whole p x (yes h) = inr (h, x)
        whole p x (no h) =
            let i : In (p - k) r = f.whole (p - k) (subst P (omega arith) x) in
            inl (omega arith, omega (arith, f.small (p - k) i), i)

-- the states below few from which the relation leads into a set
abbrev pub Leading : List ℕ → (few set : ℕ) → ℕ → Type 0
Leading rows few set p = (p < few) × Preimage (Row rows) set p

-- one more row, n, by what `shift` promises
module _ (rows : List ℕ) (few set n q r up : ℕ) (e : n + 1 ≡ q) (le : q ≤ few) (fits : few ≤ 64) (f : From (Leading rows few set) q r)
    (g : Is up (λ p. Moved 1 r p ⊎ ((p ≡ 0) × ((x : ℕ) × In x set × In x (get_or rows n 0))))) where
  abbrev Meets : ℕ → Type 0
  Meets y = (x : ℕ) × In x set × In x (get_or rows y 0)

  pub row_turn : From (Leading rows few set) n up
  row_turn = from_turn (Leading rows few set) 1 n q r up e (omega arith) f
      (record { sound = λ p i. sound p (g.sound p i); whole = λ p m. g.whole p (whole p m) })
    where
      sound : (p : ℕ) → Moved 1 r p ⊎ ((p ≡ 0) × Meets n) → Moved 1 r p ⊎ ((p < 1) × Leading rows few set (n + p))
      sound p (inl m) = inl m
      sound p (inr m) = inr (omega (arith, m.0), (omega (arith, m.0), (omega (arith, m.0), subst Meets (omega (arith, m.0)) m.1)))

      whole : (p : ℕ) → Moved 1 r p ⊎ ((p < 1) × Leading rows few set (n + p)) → Moved 1 r p ⊎ ((p ≡ 0) × Meets n)
      whole p (inl m) = inl m
      whole p (inr m) = inr (omega (arith, m.0), subst Meets (omega (arith, m.0)) m.1.1.1)
