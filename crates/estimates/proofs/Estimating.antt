-- From an entry set to the estimate: the states that matter, those that are possible, and their number. Assumes nothing.
use mathlib.Core.Path.{◌≡◌, refl, sym, subst}
use mathlib.Core.List.{List, [], ◌∷◌, ◌++◌}
use Prim.Native.Nat.{ℕ, zero, suc, ◌≤◌, ◌<◌, ◌^◌}
use native.Mathlib.Omega.{arith}
use lib.Bits.{bit_or}
use lib.ListN.{get_or}
use lib.Count.{count_trailing_zeros}
use Rattle.stateset.specs.Set.{In, Is, Counts}
use Rattle.stateset.proofs.Bits.{empty, in_lt, or_l, or_r, trailing_in}
use Rattle.stateset.proofs.Counting.{counts_some, counts_below}
use Rattle.automaton.specs.Run.{Automaton, Impossible}
use Rattle.automaton.specs.Reaching.{Enters, Arrives, EstimateSize, Gained, Closed}
use Rattle.relation.specs.Relation.{Sub}
use Rattle.automaton.specs.declared.Reach.{Reach}
use Rattle.automaton.proofs.Entering.{gained_closed}
use Rattle.automaton.proofs.Estimates.{set_size}
use Rattle.automaton.proofs.Traces.{entry_possible}
use Rattle.estimates.specs.declared.Estimate.{Estimate}
use Rattle.std.specs.Prelude.{Option, Some, None}
use Rattle.std.specs.List.{fold}
use Rattle.estimates.specs.Estimates.{Inside, UnobservableReach, Estimated, Stepped, Next, some_run, no_run}

-- each entry set is among the states of all
entered_from : (all : ℕ) (entries : List ℕ) (q : ℕ) → In q all → In q (fold bit_or all entries)
entered_from all [] q i = i
entered_from all (e ∷ es) q i = entered_from (bit_or all e) es q (or_l q all e i)

entered_at : (all : ℕ) (entries : List ℕ) (l q : ℕ) → In q (get_or entries l 0) → In q (fold bit_or all entries)
entered_at all [] l q i = absurd (empty q 0 refl i)
entered_at all (e ∷ es) zero q i = entered_from (bit_or all e) es q (or_r q all e i)
entered_at all (e ∷ es) (suc l) q i = entered_at (bit_or all e) es l q i

pub entered_all : (entries : List ℕ) (all : ℕ) → all ≡ fold bit_or 0 entries → Inside entries all
entered_all entries all is l q h i = subst (In q) (sym is) (entered_at 0 entries l q i)

-- the estimate, from what was explored, what the closure gave and what was counted
pub estimated : (p : Automaton) (from entry : ℕ) (silent : List ℕ) (r : Reach) (states size : ℕ) → p.initial ≤ 63 → entry < 2 ^ 64 → states < 2 ^ 64
    → Gained p (bit_or from entry) silent r
    → (Sub entry r.states → Sub entry states)
    → ((trace : List ℕ) → Closed p r.states silent → Sub entry r.states → Is entry (Enters p trace) → Is states (Arrives p trace))
    → Counts (λ q. In q states) size → Estimated p from entry silent (record { entry = entry; states = states; size = size; near = r.states })
estimated p from entry silent r states size start small-entry small g within reach counted =
    let closed = gained_closed p (bit_or from entry) silent r g in
    let new : Sub entry r.states = λ q i. g.more q (or_r q from entry i) in
    record {
      entry_is = refl;
      reach = record { each = λ trace E. reach trace closed new E };
      size_is = counted;
      some = λ n. counts_some size (count_trailing_zeros 64 entry) (within new (count_trailing_zeros 64 entry) (trailing_in 64 entry (omega arith) small-entry)) counted;
      most = counts_below size 64 (λ q i. in_lt 64 q states small i) counted;
      closed = closed;
      old = λ q i. g.more q (or_l q from entry i);
      new = new;
    }

-- its number, for a trace by which the entry set was entered
pub estimated_size : (p : Automaton) (from entry : ℕ) (silent : List ℕ) (e : Estimate) (trace : List ℕ) → Estimated p from entry silent e
    → Is entry (Enters p trace)
    → EstimateSize p trace e.size
estimated_size p from entry silent e trace s E = set_size p trace e.states e.size (s.reach.each trace E) s.size_is

-- the estimate of an entry set that is not empty, as that after one more symbol
pub stepping : (p : Automaton) (from entry symbol new : ℕ) (silent : List ℕ) (e : Estimate) → Estimated p from new silent e → (new ≡ 0 → ⊥) → new < 2 ^ 64
    → ((trace : List ℕ) → Is entry (Enters p trace) → Is new (Enters p (trace ++ symbol ∷ []))) → Stepped p from entry symbol silent e
stepping p from entry symbol new silent e s some small N =
    let is = s.entry_is in
    let enters : (trace : List ℕ) → Is entry (Enters p trace) → Is e.entry (Enters p (trace ++ symbol ∷ [])) =
    λ trace E. subst (λ (x : ℕ). Is x (Enters p (trace ++ symbol ∷ []))) (sym is) (N trace E) in
    record {
      estimated = subst (λ (x : ℕ). Estimated p from x silent e) (sym is) s;
      size_within = record { some = s.some some; most = s.most };
      enters = enters;
      possible = λ trace E. entry_possible p (trace ++ symbol ∷ []) new small some (N trace E);
    }

pub some_left : {p : Automaton} {from entry symbol : ℕ} {silent : List ℕ} {r : Option Estimate} {e : Estimate} → Next p from entry symbol silent r → r ≡ Some e
    → Stepped p from entry symbol silent e
some_left {p} {from} {entry} {symbol} {silent} {r} {e} x is = go (subst (Next p from entry symbol silent) is x)
  where
    go : Next p from entry symbol silent (Some e) → Stepped p from entry symbol silent e
    go (some_run y) = y

pub none_left : {p : Automaton} {from entry symbol : ℕ} {silent : List ℕ} {r : Option Estimate} → Next p from entry symbol silent r → r ≡ None
    → (trace : List ℕ) → Is entry (Enters p trace) → Impossible p (trace ++ symbol ∷ [])
none_left {p} {from} {entry} {symbol} {silent} {r} x is = go (subst (Next p from entry symbol silent) is x)
  where
    go : Next p from entry symbol silent None → (trace : List ℕ) → Is entry (Enters p trace) → Impossible p (trace ++ symbol ∷ [])
    go (no_run y) = y

pub reach_as : {p : Automaton} {entry newest estimate : ℕ} → newest ≡ entry → UnobservableReach p entry estimate → UnobservableReach p newest estimate
reach_as e r = rw e r

-- rows that are known for a set are known for its part
pub gained_part : (p : Automaton) (part from : ℕ) (silent : List ℕ) (r : Reach) → Sub part from → Gained p from silent r → Gained p part silent r
gained_part p part from silent r sub g = record { small = g.small; known_are = g.known_are; more = λ q i. g.more q (sub q i); within = g.within }
