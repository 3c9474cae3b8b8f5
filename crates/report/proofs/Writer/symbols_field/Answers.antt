use Rattle.std.proofs.Common.{◌≡◌, length, arith}
use Rattle.report.proofs.Laws.{symbols_none, symbols_some, part_shorter}
use Rattle.report.proofs.Adds.{adds_then, adds_same}
use Rattle.report.proofs.Writer.symbols_field.Goals as goal

pub returns-in_default : goal.returns-in_default
returns-in_default c = adds_same (symbols_none c.args.released.now (omega arith)) (omega arith) c.dash.ensures

pub returns : goal.returns
returns c =
    let l = c.args.released.now in
    let some : length l ≡ 0 → ⊥ = λ z. omega (arith, c.in-len1-up.len_at_least) in
    adds_same (symbols_some l c.from.result some c.from.ensures) (omega (arith, part_shorter l some)) (adds_then c.field.ensures c.more_symbols.ensures)
