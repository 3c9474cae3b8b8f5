-- the first i of the eight are joined
use Rattle.relation.proofs.Placing.{Placing}
use Rattle.relation.proofs.put_rows.Given as goal

abbrev pub invariant-loop-i : goal.invariant-loop-i
invariant-loop-i l = Placing l.fn.rows l.first l.eight l.rows l.to l.i
