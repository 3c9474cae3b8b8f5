use Rattle.estimates.proofs.Storing.{Storing}
use Rattle.estimates.proofs.push.Given as goal

abbrev pub invariant-loop-l : goal.invariant-loop-l
invariant-loop-l g l = Storing g.T.Default.is_default l.fn.newest l.kept g.row.N l.pushed l.next l.l
