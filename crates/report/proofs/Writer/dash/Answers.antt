use Rattle.report.proofs.Adds.{adds_then}
use Rattle.report.proofs.Writer.dash.Goals as goal

pub returns : goal.returns
returns c = adds_then c.byte.ensures c.byte-2.ensures
