-- each of the sets that come back joins the preimages by the events that are no longer in `todo`
use Rattle.std.proofs.Common.{ℕ, ◌<◌, ◌^◌}
use Rattle.relation.specs.Relation.{Sub}
use Rattle.relation.proofs.Falling.{Leading}
use Rattle.relation.proofs.Joining.{Joined}
use Rattle.automaton.proofs.Joining.{words_of}
use Rattle.automaton.proofs.preimage_by.Given as goal

abbrev pub invariant-loop-todo : goal.invariant-loop-todo
invariant-loop-todo g l =
    let s = g.S.Sets in
    (l.todo < 2 ^ 64)
    × Sub l.todo l.events
    × ((i : ℕ) → i < s.count → Joined (λ e. Leading (words_of l.table e) (s.far l.steps) (s.at l.set i)) l.events l.todo (s.at l.r i))

abbrev pub decreases-loop-todo : goal.decreases-loop-todo
decreases-loop-todo g l = l.todo
