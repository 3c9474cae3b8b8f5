-- r has the states from 2 p on, below 2 steps, whose rows meet the set, each 2 p places lower
use Rattle.std.proofs.Common.{◌*◌}
use Rattle.relation.proofs.Falling.{From, Leading}
use Rattle.relation.proofs.U64Sets.preimage.Given as goal

abbrev pub invariant-loop-p : goal.invariant-loop-p
invariant-loop-p l = From (Leading l.rows (2 * l.steps) l.self) (2 * l.p) l.r
