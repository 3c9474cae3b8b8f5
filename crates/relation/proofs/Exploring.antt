-- A loop that gets to know the rows of unobservable events, eight at a time. Assumes nothing.
use mathlib.Core.Path.{◌≡◌, ap, sym, subst, ◌∙◌}
use mathlib.Core.Logic.{inl, inr, ⊎_elim}
use mathlib.Core.List.{List}
use Prim.Native.Nat.{ℕ, ◌+◌, ◌-◌, ◌*◌, ◌/◌, ◌%◌, ◌^◌, ◌≤◌, ◌<◌}
use native.Mathlib.Omega.{arith}
use native.Mathlib.Decide.{dec_lt}
use native.Mathlib.Nat.{mod-lt}
use lib.Bits.{bit_and, bit_or, or_lt}
use lib.Pow.{shl_exact}
use lib.ListN.{get_or}
use Rattle.stateset.specs.Set.{bit, In, Is}
use Rattle.stateset.proofs.Bits.{empty, in?, in_lt, in_or, or_l, or_r, not_in, without_is, subset_lt, Taken}
use Rattle.relation.specs.Relation.{Rows, Sub, Put}
use Rattle.relation.proofs.Shifting.{bit_shl, bit_shl_low}

-- the mask of eight states, from f on, in the code's own terms
pub eight_is : (f : ℕ) → f ≤ 56 → Is ((255 * 2 ^ f) % 2 ^ 64) (λ x. (f ≤ x) × (x < f + 8))
eight_is f h = subst (λ (w : ℕ). Is w (λ x. (f ≤ x) × (x < f + 8))) (sym (shl_exact 8 f 64 (omega arith) (omega arith))) plain
  where
    low : (x : ℕ) → x < 8 → In x 255
    low x l = not_in 8 x 0 (omega arith) l (empty x 0 (omega arith))

    at : (x : ℕ) → f ≤ x → bit x (255 * 2 ^ f) ≡ bit (x - f) 255
    at x l =
        let e : x ≡ f + (x - f) = omega arith in
        ap (λ (y : ℕ). bit y (255 * 2 ^ f)) e ∙ bit_shl f (x - f) 255

    plain : Is (255 * 2 ^ f) (λ x. (f ≤ x) × (x < f + 8))
    plain = record { sound = λ x i. go x i (dec_lt x f); whole = λ x m. at x m.0 ∙ low (x - f) (omega (arith, m.1)) }
      where
        go : (x : ℕ) → In x (255 * 2 ^ f) → Dec (x < f) → (f ≤ x) × (x < f + 8)
        go x i (yes l) = absurd (omega (arith, bit_shl_low f x 255 l))
        go x i (no n) = (omega arith, omega (arith, in_lt 8 (x - f) 255 (omega arith) (sym (at x (omega arith)) ∙ i)))

-- the rows of a relation that are known so far, and the states that are to be known
pub record Exploring (R : ℕ → ℕ → Type 0) (from : ℕ) (rows : List ℕ) (states known todo : ℕ) : Type 0 where
  pub states_small : states < 2 ^ 64
  pub known_small : known < 2 ^ 64
  pub rows_are : Rows rows (λ q r. In q known × R q r)
  pub onward : (q r : ℕ) → In q known → R q r → In r states
  pub more : Sub from states
  pub left : Is todo (λ q. In q states × (In q known → ⊥))

module _ (R : ℕ → ℕ → Type 0) (from : ℕ) where
  pub explore_start : (rows : List ℕ) (known : ℕ) → from < 2 ^ 64 → known < 2 ^ 64 → Rows rows (λ q r. In q known × R q r)
      → ((q r : ℕ) → In q known → R q r → In r from)
      → Exploring R from rows from known (bit_and from ((2 ^ 64 - 1) - known))
  explore_start rows known hf hk h on =
      record { states_small = hf; known_small = hk; rows_are = h; onward = on; more = λ q i. i; left = without_is from known hf hk }

  module _ (rows : List ℕ) (states known todo q rest : ℕ) (x : Exploring R from rows states known todo) (k : Taken todo q rest) where
    abbrev first : ℕ
    first = q / 8 * 8

    abbrev mask : ℕ
    mask = (255 * 2 ^ first) % 2 ^ 64

    M : Is mask (λ p. (first ≤ p) × (p < first + 8))
    M = eight_is first (omega (arith, k.small))

    known_lt : bit_or known mask < 2 ^ 64
    known_lt = or_lt 64 known mask x.known_small (mod-lt (255 * 2 ^ first) (omega arith))

    pub explore_turn : (eight after : List ℕ) (to : ℕ) → to < 2 ^ 64 → ((i : ℕ) → i < 8 → Is (get_or eight i 0) (R (first + i))) → Put rows first eight after to
        → Exploring R from after (bit_or states to) (bit_or known mask) (bit_and (bit_or states to) ((2 ^ 64 - 1) - bit_or known mask))
    explore_turn eight after to ht e p =
        record {
          states_small = or_lt 64 states to x.states_small ht;
          known_small = known_lt;
          rows_are = record { size = p.size ∙ x.rows_are.size; each = λ y l. row y l (dec_lt y first) (dec_lt y (first + 8)) };
          onward = λ y r i h. ⊎_elim (λ j. or_l r states to (x.onward y r j h)) (λ j. or_r r states to (join y r (M.sound y j) h)) (in_or y known mask i);
          more = λ y i. or_l y states to (x.more y i);
          left = without_is (bit_or states to) (bit_or known mask) (or_lt 64 states to x.states_small ht) known_lt;
        }
      where
        place : (y : ℕ) → first ≤ y → first + (y - first) ≡ y
        place y l = omega arith

        join : (y r : ℕ) → (first ≤ y) × (y < first + 8) → R y r → In r to
        join y r l h =
            p.joined.whole r (
              y - first,
              omega (arith, l.0, l.1),
              (e (y - first) (omega (arith, l.0, l.1))).whole r (subst (λ (z : ℕ). R z r) (sym (place y l.0)) h),
            )

        other : (y : ℕ) → y < 64 → (In y mask → ⊥) → get_or after y 0 ≡ get_or rows y 0 → Is (get_or after y 0) (λ r. In y (bit_or known mask) × R y r)
        other y l n same =
            rw same (record {
              sound = λ r i. let m = (x.rows_are.each y l).sound r i in (or_l y known mask m.0, m.1);
              whole = λ r m. (x.rows_are.each y l).whole r (⊎_elim (λ j. j) (λ j. absurd (n j)) (in_or y known mask m.0), m.1);
            })

        row : (y : ℕ) → y < 64 → Dec (y < first) → Dec (y < first + 8) → Is (get_or after y 0) (λ r. In y (bit_or known mask) × R y r)
        row y l (yes b) d = other y l (λ i. omega (arith, (M.sound y i).0)) (p.old y (inl b))
        row y l (no a) (no b) = other y l (λ i. omega (arith, (M.sound y i).1)) (p.old y (inr (omega arith)))
        row y l (no a) (yes b) =
            let e' = place y (omega arith) in
            let at : get_or after y 0 ≡ bit_or (get_or rows y 0) (get_or eight (y - first) 0) =
            subst (λ (z : ℕ). get_or after z 0 ≡ bit_or (get_or rows z 0) (get_or eight (y - first) 0)) e' (p.new (y - first) (omega arith)) in
            let w = e (y - first) (omega arith) in
            let in-mask = or_r y known mask (M.whole y (omega arith, b)) in
            rw at (record {
              sound = λ r i. ⊎_elim (λ j. (in-mask, ((x.rows_are.each y l).sound r j).1)) (λ j. (in-mask, subst (λ (z : ℕ). R z r) e' (w.sound r j)))
                  (in_or r (get_or rows y 0) (get_or eight (y - first) 0) i);
              whole = λ r m. or_r r (get_or rows y 0) (get_or eight (y - first) 0) (w.whole r (subst (λ (z : ℕ). R z r) (sym e') m.1));
            })

    pub explore_less : 2 ^ 64 - bit_or known mask < 2 ^ 64 - known
    explore_less =
        let new = M.whole q (omega arith, omega arith) in
        omega (
          arith,
          subset_lt 64 known (bit_or known mask) q x.known_small known_lt (λ y i. or_l y known mask i) (or_r q known mask new)
              (x.left.sound q k.inside).1,
        )

  -- all that was reached is known
  pub explore_end : (rows : List ℕ) (states known todo : ℕ) → todo ≡ 0 → Exploring R from rows states known todo → Sub states known
  explore_end rows states known todo z x q i = go (in? q known)
    where
      go : Dec (In q known) → In q known
      go (yes j) = j
      go (no n) = absurd (empty q todo z (x.left.whole q (i, n)))
