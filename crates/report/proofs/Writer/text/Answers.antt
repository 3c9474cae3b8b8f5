use Rattle.std.proofs.Common.{refl, arith}
use Rattle.report.proofs.Laws.{copied}
use Rattle.report.proofs.Writer.text.Goals as goal

pub returns : goal.returns
returns c = record { same = refl; wrote = copied c.requires c.copy_from_slice.ensures.after (omega arith) refl }
