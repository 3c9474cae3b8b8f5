use Rattle.std.proofs.Common.{ℕ, ◌∷◌, ap, ◌∙◌, arith}
use Rattle.report.specs.Text.{decimal}
use Rattle.report.proofs.Adds.{adds_same}
use Rattle.report.proofs.Writer.refusal_field.Goals as goal

pub returns : goal.returns
returns c = adds_same (ap (λ (k : ℕ). 32 ∷ decimal k) (c.from.ensures ∙ c.number.ensures)) (omega arith) c.field.ensures
