use Rattle.std.proofs.Common.{ℕ, ◌∷◌, ◌++◌, ap, arith}
use Rattle.report.specs.Text.{decimal, steps}
use Rattle.report.proofs.Adds.{adds_then, adds_same}
use Rattle.report.proofs.Writer.judgement_fields.Goals as goal

pub returns : goal.returns
returns c =
    let own = c.args.judgement.verdicts.own in
    adds_same (ap (λ (k : ℕ). (32 ∷ steps own.weak) ++ ((32 ∷ steps own.strong) ++ (32 ∷ decimal k))) c.from.ensures) (omega arith)
    (adds_then c.verdict_field.ensures (adds_then c.verdict_field-2.ensures c.field.ensures))
