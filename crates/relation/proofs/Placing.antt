-- A loop that joins eight words to those at their places, from first on. Assumes nothing.
use mathlib.Core.Path.{◌≡◌, refl, ap, subst, ◌∙◌}
use mathlib.Core.Logic.{◌⊎◌, inl, inr, ⊎_elim}
use mathlib.Core.List.{List}
use Prim.Native.Nat.{ℕ, ◌+◌, ◌≤◌, ◌<◌}
use native.Mathlib.Omega.{arith}
use native.Mathlib.Decide.{ℕ_discrete}
use lib.Bits.{bit_or}
use lib.ListN.{length, get_or, set, length-set}
use lib.Seq.{get_or-set_same, get_or-set_other}
use Rattle.stateset.specs.Set.{In, Is}
use Rattle.stateset.proofs.Bits.{in_or, or_l, or_r, bit_zero}
use Rattle.relation.specs.Relation.{Put}

-- the first n of them are joined
pub record Placing (before : List ℕ) (first : ℕ) (eight after : List ℕ) (to n : ℕ) : Type 0 where
  pub few : n ≤ 8
  pub size : length after ≡ length before
  pub new : (i : ℕ) → i < n → get_or after (first + i) 0 ≡ bit_or (get_or before (first + i) 0) (get_or eight i 0)
  pub old : (k : ℕ) → (k < first) ⊎ (first + n ≤ k) → get_or after k 0 ≡ get_or before k 0
  pub joined : Is to (λ x. (i : ℕ) × (i < n) × In x (get_or eight i 0))

module _ (before : List ℕ) (first : ℕ) (eight : List ℕ) where
  pub placing_start : Placing before first eight before 0 0
  placing_start =
      record {
        few = omega arith;
        size = refl;
        new = λ i l. absurd (omega arith);
        old = λ k o. refl;
        joined = record { sound = λ x i. absurd (omega (arith, bit_zero x)); whole = λ x m. absurd (omega (arith, m.1)) };
      }

  pub placing_turn : (after : List ℕ) (to n : ℕ) → n < 8 → first + 8 ≤ length before → Placing before first eight after to n
      → Placing before first eight (set after (first + n) (bit_or (get_or after (first + n) 0) (get_or eight n 0))) (bit_or to (get_or eight n 0)) (n + 1)
  placing_turn after to n l room p =
      record {
        few = omega arith;
        size = simp length-set p.size;
        new = λ i h. go i h (ℕ_discrete i n);
        old = λ k o.
            let other : k ≡ first + n → ⊥ = λ e. apart k e o in
            get_or-set_other after (first + n) k word 0 other ∙ p.old k (⊎_elim (λ h. inl h) (λ h. inr (omega arith)) o);
        joined = record {
          sound = λ x i. ⊎_elim (λ j. let m = p.joined.sound x j in (m.0, omega (arith, m.1), m.2)) (λ j. (n, omega arith, j))
              (in_or x to (get_or eight n 0) i);
          whole = λ x m. whole x m.0 m.1 m.2 (ℕ_discrete m.0 n);
        };
      }
    where
      word : ℕ
      word = bit_or (get_or after (first + n) 0) (get_or eight n 0)

      apart : (k : ℕ) → k ≡ first + n → (k < first) ⊎ (first + (n + 1) ≤ k) → ⊥
      apart k e (inl h) = omega arith
      apart k e (inr h) = omega arith

      go : (i : ℕ) → i < n + 1 → Dec (i ≡ n) → get_or (set after (first + n) word) (first + i) 0 ≡ bit_or (get_or before (first + i) 0) (get_or eight i 0)
      go i h (yes e) =
          rw e (get_or-set_same after (first + n) word 0 (omega (arith, p.size))
          ∙ ap (λ (w : ℕ). bit_or w (get_or eight n 0)) (p.old (first + n) (inr (omega arith))))
      go i h (no d) =
          let other : first + i ≡ first + n → ⊥ = λ e. d (omega arith) in
          get_or-set_other after (first + n) (first + i) word 0 other ∙ p.new i (omega arith)

      whole : (x i : ℕ) → i < n + 1 → In x (get_or eight i 0) → Dec (i ≡ n) → In x (bit_or to (get_or eight n 0))
      whole x i h j (yes e) = or_r x to (get_or eight n 0) (subst (λ (k : ℕ). In x (get_or eight k 0)) e j)
      whole x i h j (no d) = or_l x to (get_or eight n 0) (p.joined.whole x (i, omega arith, j))

  pub placing_end : (after : List ℕ) (to n : ℕ) → n ≡ 8 → Placing before first eight after to n → Put before first eight after to
  placing_end after to n e p =
      let q : Placing before first eight after to 8 = subst (λ (k : ℕ). Placing before first eight after to k) e p in
      record { size = q.size; new = q.new; old = q.old; joined = q.joined }
