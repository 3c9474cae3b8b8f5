use Rattle.std.proofs.Common.{[], ◌∷◌, arith}
use Rattle.report.specs.Text.{decimal}
use Rattle.report.proofs.Laws.{lined}
use Rattle.report.proofs.Adds.{adds_then, adds_same}
use Rattle.report.proofs.Writer.last_line.Goals as goal

pub returns : goal.returns
returns c =
    let a = c.args in
    adds_same (lined (101 ∷ 110 ∷ 100 ∷ []) (decimal a.accepted ∷ decimal a.released ∷ decimal a.pending ∷ [])) (omega arith)
    (adds_then c.text.ensures (adds_then c.field.ensures (adds_then c.field-2.ensures (adds_then c.field-3.ensures c.byte.ensures))))
