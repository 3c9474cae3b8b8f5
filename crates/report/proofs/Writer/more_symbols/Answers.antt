use Rattle.std.proofs.Common.{ℕ, List, ◌∷◌, ◌++◌, map, take, ap, ◌∙◌, arith}
use lib.Seq.{take_all}
use Rattle.report.specs.Text.{decimal, led}
use Rattle.report.proofs.Laws.{led_one}
use Rattle.report.proofs.Adds.{adds_then, adds_none, adds_same}
use Rattle.report.proofs.Writer.more_symbols.Goals as goal

pub loop-symbol-init : goal.loop-symbol-init
loop-symbol-init c = adds_none

pub loop-symbol-preserved : goal.loop-symbol-preserved
loop-symbol-preserved c =
    let l = c.args.released.now in
    let i = c.loop-symbol.symbol-index in
    adds_same (ap (λ (k : ℕ). led 44 (map decimal (take i l)) ++ (44 ∷ decimal k)) c.from.ensures ∙ led_one 44 l i (omega arith)) (omega arith)
    (adds_then c.loop-symbol.invariant c.field.ensures)

pub returns : goal.returns
returns c =
    adds_same (ap (λ (k : List ℕ). led 44 (map decimal k)) (take_all c.loop-symbol.symbol-index c.args.released.now (omega arith))) (omega arith)
    c.loop-symbol.invariant
