-- Automata with one target for each state and event, 01's P among them. Assumes nothing.
use mathlib.Core.Path.{◌≡◌, refl, sym, subst, ◌∙◌}
use mathlib.Core.List.{List, [], ◌∷◌}
use mathlib.Core.Logic.{◌⊎◌, inl, inr}
use Prim.Native.Nat.{ℕ, ◌+◌, ◌*◌, ◌^◌, ◌<◌}
use native.Mathlib.Omega.{arith}
use native.Mathlib.Decide.{ℕ_discrete, dec_lt}
use lib.ListN.{length, get_or, replicate, set, get_or-replicate, length-replicate, get_or-eq_default}
use lib.Seq.{get_or-set_same, get_or-set_other, set_out}
use Rattle.stateset.specs.Set.{bit, In}
use Rattle.stateset.proofs.Bits.{bit_pow_other, empty}
use Rattle.automaton.specs.Run.{Automaton, Transition}
use Rattle.published.specs.ByWords.{OneTarget, tabled, listed_by, transitions_p, example_p}

-- a word of the table with at most one target
abbrev Single : ℕ → Type 0
Single w = (w ≡ 0) ⊎ ((q : ℕ) × (w ≡ 2 ^ q))

in_pow : (r q : ℕ) → In r (2 ^ q) → Dec (r ≡ q) → r ≡ q
in_pow r q i (yes e) = e
in_pow r q i (no n) = absurd (omega (arith, bit_pow_other r q n))

single_one : (w r r' : ℕ) → Single w → In r w → In r' w → r ≡ r'
single_one w r r' (inl z) i j = absurd (empty r w z i)
single_one w r r' (inr x) i j = at r i ∙ sym (at r' j)
  where
    at : (n : ℕ) → In n w → n ≡ x.0
    at n i = in_pow n x.0 (subst (In n) x.1 i) (ℕ_discrete n x.0)

pub singles_one_target : (p : Automaton) → ((i : ℕ) → Single (get_or p.table i 0)) → OneTarget p
singles_one_target p all = record { one = λ q e r r' x y. single_one (get_or p.table (64 * e + q) 0) r r' (all (64 * e + q)) x.listed y.listed }

set_single : (t : List ℕ) (j q i : ℕ) → Single (get_or t i 0) → Single (get_or (set t j (2 ^ q)) i 0)
set_single t j q i x = go (ℕ_discrete i j) (dec_lt j (length t))
  where
    go : Dec (i ≡ j) → Dec (j < length t) → Single (get_or (set t j (2 ^ q)) i 0)
    go (no n) d = rw (get_or-set_other t j i (2 ^ q) 0 n) x
    go (yes e) (yes h) = inr (q, rw e (get_or-set_same t j (2 ^ q) 0 h))
    go (yes e) (no h) = rw (set_out t j (2 ^ q) (omega arith)) x

tabled_single : (l : List (ℕ × ℕ × ℕ)) (i : ℕ) → Single (get_or (tabled l) i 0)
tabled_single [] i = go (dec_lt i 2048)
  where
    go : Dec (i < 2048) → Single (get_or (replicate 2048 0) i 0)
    go (yes h) = inl (get_or-replicate 2048 i 0 0 h)
    go (no h) = inl (get_or-eq_default (replicate 2048 0) 0 {n = i} (rw (length-replicate {A = ℕ} 2048 0) (omega arith)))
tabled_single ((from, event, to) ∷ l) i = set_single (tabled l) (64 * event + from) to i (tabled_single l i)

pub one_target_listed : (l : List (ℕ × ℕ × ℕ)) (initial observable : ℕ) → OneTarget (listed_by l initial observable)
one_target_listed l initial observable = singles_one_target (listed_by l initial observable) (tabled_single l)

pub one_target-P : OneTarget example_p
one_target-P = one_target_listed transitions_p 0 (2 ^ 1 + 2 ^ 2)

-- and it has the transitions that are listed
has : (q e r : ℕ) → q < 64 → e < 32 → r < 64 → In r (get_or (tabled transitions_p) (64 * e + q) 0) → Transition example_p.table q e r
has q e r a b c i = record { from_small = a; event_small = b; to_small = c; listed = i }

abbrev Listed : List (ℕ × ℕ × ℕ) → Type 0
Listed [] = Unit {0}
Listed ((q, e, r) ∷ l) = Transition example_p.table q e r × Listed l

pub transitions-P : Listed transitions_p
unfolding bit
transitions-P = (
  has 0 0 2 (omega arith) (omega arith) (omega arith) refl,
  (
    has 0 1 1 (omega arith) (omega arith) (omega arith) refl,
    (
      has 1 2 0 (omega arith) (omega arith) (omega arith) refl,
      (
        has 2 1 3 (omega arith) (omega arith) (omega arith) refl,
        (has 3 1 3 (omega arith) (omega arith) (omega arith) refl, tt),
      ),
    ),
  ),
)
