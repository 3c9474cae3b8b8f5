-- The symbols stand behind the front.
use Rattle.std.proofs.Common.{arith}
use Rattle.encoding.proofs.Ended.{observable_fits, symbols_few}
use Rattle.encoding.proofs.HeaderSymbols.{header_made}
use Rattle.encoding.proofs.header.header_at.Goals as goal

pub all_symbols-symbols-requires : goal.all_symbols-symbols-requires
all_symbols-symbols-requires c =
    let x = c.requires.1.fixed in
    let few = symbols_few _ x in
    let n = c.symbol_count.ensures in
    let at = c.requires.0 in
    (omega (arith, x.topstate, x.topevent), omega arith, omega (arith, c.requires.2))

pub overflow_cast-result-3 : goal.overflow_cast-result-3
overflow_cast-result-3 c = omega (arith, observable_fits c.args.front c.requires.1)

pub returns : goal.returns
returns c = header_made _ c.args.front _ _ _ c.requires.0 c.symbol_count.ensures c.all_symbols-symbols.ensures
