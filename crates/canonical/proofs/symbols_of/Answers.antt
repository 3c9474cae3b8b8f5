use Rattle.std.proofs.Common.{arith}
use Rattle.encoding.proofs.Ended.{symbols_few}
use Rattle.canonical.proofs.symbols_of.Goals as goal

pub all_symbols-requires : goal.all_symbols-requires
all_symbols-requires c =
    let x = c.requires.0.fixed in
    omega (arith, c.symbol_count-n.ensures, c.front_end-at.ensures, symbols_few c.args.front.fixed x, x.topstate, x.topevent, c.requires.1)

pub returns : goal.returns
returns c = rw (← c.symbol_count-n.ensures, ← c.front_end-at.ensures) c.all_symbols.ensures
