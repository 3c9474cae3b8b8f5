-- `estimates::next_estimate` meets its contract: a run is left exactly where the entry set is not empty, and then the estimate is worked out from it.
use Rattle.std.proofs.Common.{refl, ℕ, List, [], ◌∷◌, ◌++◌, arith}
use Rattle.stateset.specs.Set.{Is}
use Rattle.automaton.specs.Run.{automaton_of}
use Rattle.automaton.specs.Reaching.{Enters, Showing}
use Rattle.automaton.proofs.Entering.{gained_closed}
use Rattle.automaton.proofs.Traces.{entry_impossible}
use Rattle.estimates.specs.Estimates.{some_run, no_run}
use Rattle.estimates.proofs.Estimating.{stepping}
use Rattle.estimates.proofs.next_estimate.Goals as goal
use Rattle.estimates.proofs.next_estimate.Goals.{After-observable_reach-after}

-- the states right after one more symbol
next_entry : (c : After-observable_reach-after) (symbol : ℕ)
    → Showing (automaton_of c.args.table.now c.args.header) symbol c.args.events → (trace : List ℕ)
    → Is c.args.entry (Enters (automaton_of c.args.table.now c.args.header) trace)
    → Is c.observable_reach-after.result (Enters (automaton_of c.args.table.now c.args.header) (trace ++ symbol ∷ []))
next_entry c symbol shown trace E =
    let g = c.requires.3 in
    c.observable_reach-after.ensures _ trace symbol refl shown (c.unobservable_reach-estimate.ensures.1 _ trace c.requires.1 (gained_closed _ _ _ _ g) g.more E)

pub returns-then-after-eq0 : goal.returns-then-after-eq0
returns-then-after-eq0 c = λ symbol shown.
    no_run (λ trace E. entry_impossible _ (trace ++ symbol ∷ []) _ c.if-after-eq0.true (next_entry (goal.at.returns-then-after-eq0 c).After-observable_reach-after symbol shown trace E))

pub returns : goal.returns
returns c = λ symbol shown.
    some_run (stepping _ _ _ symbol c.observable_reach-after.result _ _ c.estimate_from.ensures c.if-after-eq0.false (omega arith)
    (next_entry (goal.at.returns c).After-observable_reach-after symbol shown))
