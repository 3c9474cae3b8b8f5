use Rattle.std.proofs.Common.{take, arith}
use Rattle.std.proofs.lemmas.List.{length-take-le}
use Rattle.encode.proofs.Lengths.{length_symbols}
use Rattle.encode.proofs.Steps.{symbols_start, symbols_turn}
use Rattle.encode.proofs.Writer.put_symbols.Goals as goal

pub loop-symbol-init : goal.loop-symbol-init
loop-symbol-init c = symbols_start c.args.symbols.now _

pub put_number-requires : goal.put_number-requires
put_number-requires c =
    let i = c.loop-symbol.symbol-index in
    let symbols = c.args.symbols.now in
    omega (arith, c.loop-symbol.invariant.next, length_symbols (take i symbols), length-take-le i symbols (omega arith))

pub loop-symbol-preserved : goal.loop-symbol-preserved
loop-symbol-preserved c = symbols_turn _ _ _ (omega arith) c.from.ensures c.loop-symbol.invariant c.put_number.ensures
