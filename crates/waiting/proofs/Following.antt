-- The states that are possible after a trace, and the entry set of one more symbol, which is the same for traces with the same entry set. Assumes nothing.
use mathlib.Core.Path.{◌≡◌}
use mathlib.Core.List.{List, [], ◌∷◌, ◌++◌}
use mathlib.Core.Logic.{◌↔◌}
use Prim.Native.Nat.{ℕ, ◌^◌, ◌≤◌, ◌<◌}
use native.Mathlib.Omega.{arith}
use native.Mathlib.Decide.{dec_lt, ℕ_discrete}
use Rattle.stateset.specs.Set.{In, Is}
use Rattle.stateset.proofs.Bits.{in?, in_lt}
use Rattle.stateset.proofs.Tests.{both, test_as, same?, some?}
use Rattle.relation.specs.Relation.{Image}
use Rattle.automaton.specs.Run.{Automaton, Step, Transition, shows}
use Rattle.automaton.specs.Reaching.{Enters, Arrives, Listed}
use Rattle.automaton.proofs.Runs.{end_small}
use Rattle.automaton.proofs.Entering.{enters_is}
use Rattle.opacity.proofs.Deciding.{AllOk, goes?, transition?}
use Rattle.waiting.proofs.Alike.{arrives_alike}
use Rattle.stateset.proofs.Words.{Word, word_of}

listed? : (t : List ℕ) (events q r : ℕ) → Dec (Listed t events q r)
listed? t events q r =
    test_as (λ x. (x.at, x.holds.0, x.holds.1)) (λ x. record { at = x.0; small = x.2.event_small; holds = (x.1, x.2) })
    (some? (λ e. In e events × Transition t q e r) (λ e. both (in? e events) (transition? t q e r)) 32)

module _ (p : Automaton) (start : p.initial ≤ 63) (trace : List ℕ) where
  abbrev Any : ℕ → ℕ → Type 0
  Any n q = Unit {0}

  any : (End : ℕ → Type 0) (q : ℕ) (ss : List Step) → AllOk p Any End q ss
  any End q [] = tt
  any End q (s ∷ ss) = (tt, any End s.to ss)

  arrives? : (q : ℕ) → Dec (Arrives p trace q)
  arrives? q =
      test_as (λ g. record { run = g.steps; compatible = record { takes = g.takes; shown_is = g.shown_is }; ends = g.ends })
      (λ a. record {
        steps = a.run;
        takes = a.compatible.takes;
        shown_is = a.compatible.shown_is;
        all = any (λ r. r ≡ q) p.initial
            a.run;
        ends = a.ends;
      })
      (goes? p Any (λ r. r ≡ q) (λ n r. yes tt) (λ r. ℕ_discrete r q) p.initial trace)

  -- the possible states
  pub estimate : Word (Arrives p trace)
  estimate = word_of (Arrives p trace) arrives? (λ q a. omega (arith, a.ends, end_small p p.initial a.run start a.compatible.takes))

  module _ (e : ℕ) where
    events : Word (λ x. (x < 32) × (shows p x ≡ e ∷ []))
    events = word_of _ (λ x. both (dec_lt x 32) (same? (shows p x) (e ∷ []))) (λ x h. omega (arith, h.0))

    abbrev Next : ℕ → Type 0
    Next r = Image (Listed p.table events.word) estimate.word r

    next? : (r : ℕ) → Dec (Next r)
    next? r =
        test_as (λ x. (x.at, x.holds.0, x.holds.1)) (λ x. record
        { at = x.0; small = in_lt 64 x.0 estimate.word estimate.small x.1; holds = (x.1, x.2) })
        (some? (λ q. In q estimate.word × Listed p.table events.word q r)
        (λ q. both (in? q estimate.word) (listed? p.table events.word q r)) 64)

    entry : Word Next
    entry = word_of Next next? (λ r x. x.2.2.to_small)

    -- the entry set of one more symbol, for every trace with the same entry set
    pub record NextEntry : Type 0 where
      pub word : ℕ
      pub small : word < 2 ^ 64
      pub is : (other : List ℕ) → ((q : ℕ) → Enters p trace q ↔ Enters p other q) → Is word (Enters p (other ++ e ∷ []))

    pub next_entry : NextEntry
    next_entry = record {
      word = entry.word;
      small = entry.small;
      is = λ other same.
          enters_is p other e estimate.word entry.word events.word events.is
          (record {
            sound = λ q i. arrives_alike p trace other (λ r. (same r).0) q (estimate.is.sound q i);
            whole = λ q a. estimate.is.whole q (arrives_alike p other trace (λ r. (same r).1) q a);
          }) entry.is;
    }
