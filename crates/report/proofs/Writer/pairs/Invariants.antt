use Rattle.std.proofs.Common.{length}
use Rattle.report.proofs.Pairing.{PairsPut}
use Rattle.report.proofs.Writer.pairs.Given as goal

abbrev pub invariant-loop-left : goal.invariant-loop-left
invariant-loop-left l = PairsPut l.pairs l.initial.self l.left l.self

abbrev pub decreases-loop-left : goal.decreases-loop-left
decreases-loop-left l = length l.left
