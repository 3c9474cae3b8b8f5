use Rattle.std.proofs.Common.{ℕ, ◌∷◌, sym, ap, ◌∙◌, arith}
use Rattle.opacity.specs.declared.Verdict.{Verdict}
use Rattle.report.specs.Text.{decimal, steps}
use Rattle.report.proofs.Adds.{adds_same}
use Rattle.report.proofs.Writer.verdict_field.Goals as goal

pub returns-in-NoLeak : goal.returns-in-NoLeak
returns-in-NoLeak c = adds_same (sym (ap (λ (v : Verdict). 32 ∷ steps v) c.in-NoLeak.is)) (omega arith) c.dash.ensures

pub returns-in-Leak : goal.returns-in-Leak
returns-in-Leak c =
    adds_same (ap (λ (k : ℕ). 32 ∷ decimal k) c.from.ensures ∙ sym (ap (λ (v : Verdict). 32 ∷ steps v) c.in-Leak.is)) (omega arith) c.field.ensures
