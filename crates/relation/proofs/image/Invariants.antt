-- each of the sets that come back joins the rows of those of its states that are no longer in `todo`
use Rattle.std.proofs.Common.{ℕ, ◌<◌, ◌^◌}
use Rattle.relation.specs.Relation.{Sub}
use Rattle.relation.proofs.Joining.{Joined, Adds}
use Rattle.relation.proofs.image.Given as goal

abbrev pub invariant-loop-todo : goal.invariant-loop-todo
invariant-loop-todo g l =
    let s = g.S.Sets in
    (l.todo < 2 ^ 64)
    × Sub l.todo l.initial.todo
    × ((i : ℕ) → i < s.count → Joined (Adds l.rows (s.at l.set i)) l.initial.todo l.todo (s.at l.r i))

abbrev pub decreases-loop-todo : goal.decreases-loop-todo
decreases-loop-todo g l = l.todo
