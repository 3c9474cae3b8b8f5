use Rattle.std.proofs.Common.{arith}
use Rattle.report.proofs.Adds.{adds_then, adds_same}
use Rattle.report.proofs.Pairing.{pair_same}
use Rattle.report.proofs.Writer.pair.Goals as goal

pub returns : goal.returns
returns c = adds_same (pair_same c.from.ensures c.from-2.ensures) (omega arith) (adds_then c.field.ensures c.field-2.ensures)
