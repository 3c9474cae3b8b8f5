-- Four sets side by side: what holds of each of them holds by number. Assumes nothing.
use mathlib.Core.Logic.{◌⊎◌, inl, inr}
use Prim.Native.Nat.{ℕ, zero, suc, ◌+◌, ◌≤◌, ◌<◌}
use native.Mathlib.Omega.{arith}
use native.Mathlib.Decide.{ℕ_discrete}
use mathlib.Core.Path.{◌≡◌, subst}
use lib.Bits.{bit_or}
use Rattle.stateset.specs.Set.{In, Is}
use Rattle.stateset.proofs.Bits.{union_is}
use Rattle.relation.specs.Relation.{set_at}
use Rattle.relation.specs.declared.StateSets.{StateSets}
use Rattle.relation.proofs.Words.{own_is, or_is}

pub four : (P : ℕ → Type 0) → P 0 → P 1 → P 2 → P 3 → (i : ℕ) → i < 4 → P i
four P a b c d zero l = a
four P a b c d (suc zero) l = b
four P a b c d (suc (suc zero)) l = c
four P a b c d (suc (suc (suc zero))) l = d
four P a b c d (suc (suc (suc (suc i)))) l = absurd (omega arith)

module _ (s : StateSets) where
  abbrev Some : ℕ → Type 0
  Some q = ((In q s.own ⊎ In q s.first) ⊎ In q s.second) ⊎ In q s.third

  -- the union of the four, in the code's own terms
  pub union_of : Is (bit_or (bit_or (bit_or s.own s.first) s.second) s.third) (λ q. (i : ℕ) × (i < 4) × In q (set_at s i))
  union_of =
      record {
        sound = λ q i. number q (U.sound q i);
        whole = λ q m. U.whole q (four (λ k. In q (set_at s k) → Some q) (λ i. inl (inl (inl i))) (λ i. inl (inl (inr i))) (λ i. inl (inr i)) (λ i. inr i)
            m.0 m.1 m.2);
      }
    where
      U : Is (bit_or (bit_or (bit_or s.own s.first) s.second) s.third) Some
      U = or_is _ s.third (or_is _ s.second (union_is s.own s.first) (own_is s.second)) (own_is s.third)

      number : (q : ℕ) → Some q → (i : ℕ) × (i < 4) × In q (set_at s i)
      number q (inl (inl (inl i))) = (0, omega arith, i)
      number q (inl (inl (inr i))) = (1, omega arith, i)
      number q (inl (inr i)) = (2, omega arith, i)
      number q (inr i) = (3, omega arith, i)

-- the first n numbers in all: the sum falls where one of them does and none grows
abbrev pub total : (ℕ → ℕ) → ℕ → ℕ
total f zero = 0
total f (suc n) = total f n + f n

total_le : (f g : ℕ → ℕ) (n : ℕ) → ((i : ℕ) → i < n → g i ≤ f i) → total g n ≤ total f n
total_le f g zero le = omega arith
total_le f g (suc n) le = omega (arith, total_le f g n (λ i l. le i (omega arith)), le n (omega arith))

pub total_less : (f g : ℕ → ℕ) (n : ℕ) → ((i : ℕ) → i < n → g i ≤ f i) → (i : ℕ) → i < n → g i < f i → total g n < total f n
total_less f g zero le i l h = absurd (omega arith)
total_less f g (suc n) le i l h = go (ℕ_discrete i n) (total_less f g n (λ k m. le k (omega arith)) i)
  where
    go : Dec (i ≡ n) → (i < n → g i < f i → total g n < total f n) → total g (suc n) < total f (suc n)
    go (yes e) before =
        let last : g n < f n = subst (λ (k : ℕ). g k < f k) e h in
        omega (arith, total_le f g n (λ k m. le k (omega arith)), last)
    go (no d) before = omega (arith, before (omega arith) h, le n (omega arith))
