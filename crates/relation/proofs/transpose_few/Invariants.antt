-- the rows before row p are turned, and of row p the bits that are no longer in `todo`
use Rattle.std.proofs.Common.{◌<◌, ◌^◌, get_or}
use Rattle.relation.proofs.Turning.{Turning}
use Rattle.relation.proofs.transpose_few.Given as goal

abbrev pub invariant-loop-p : goal.invariant-loop-p
invariant-loop-p l = Turning l.fn.rows l.out l.p (get_or l.fn.rows l.p 0)

abbrev pub invariant-loop-todo : goal.invariant-loop-todo
invariant-loop-todo l = (l.todo < 2 ^ 64) × Turning l.fn.rows l.out l.p l.todo

abbrev pub decreases-loop-todo : goal.decreases-loop-todo
decreases-loop-todo l = l.todo
