use Rattle.std.proofs.Common.{◌≤◌, length, refl, rules, arith}
use Rattle.std.proofs.lemmas.List.{length-take-le}
use Rattle.encoding.proofs.Ended.{symbols_few}
use Rattle.encode.proofs.Lengths.{length_front}
use Rattle.encode.proofs.Steps.{preamble_all}
use Rattle.encode.proofs.put_preamble.Goals as goal

pub put_symbols-requires : goal.put_symbols-requires
put_symbols-requires c =
    let small = c.requires.0.fixed in
    omega (
      arith,
      c.put_front.ensures.next,
      length_front c.args.front,
      c.symbol_count-n.ensures,
      symbols_few c.args.front.fixed small,
      small.topstate,
      small.topevent,
      length-take-le c.symbol_count-n.result c.args.symbols.now (omega (arith, c.symbol_count-n.ensures, symbols_few c.args.front.fixed small, small.topevent)),
    )

pub returns : goal.returns
returns c =
    let small = c.requires.0.fixed in
    let fits : c.symbol_count-n.result ≤ length c.args.symbols.now = omega (
      arith,
      c.symbol_count-n.ensures,
      symbols_few c.args.front.fixed small,
      small.topevent,
    ) in
    let h = preamble_all c.args.front c.args.symbols.now c.symbol_count-n.result refl c.put_front.ensures c.symbol_count-n.ensures fits
    c.put_symbols.ensures in
    let next = h.0 in
    let wrote = h.1 in
    search rules
