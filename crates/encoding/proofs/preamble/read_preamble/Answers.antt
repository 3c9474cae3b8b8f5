-- The front's numbers are small, and the symbols begin within the bits.
use Rattle.std.proofs.Common.{sym, arith, Ok, Err}
use Rattle.encoding.specs.Encoding.{preamble}
use Rattle.encoding.proofs.Ended.{front_in, symbols_few}
use Rattle.encoding.proofs.Carried.{symbols_moved, handed}
use Rattle.encoding.proofs.preamble.read_preamble.Goals as goal

pub returns-in_err-front : goal.returns-in_err-front
unfolding preamble
returns-in_err-front c =
    rw (handed c.from_residual.result c.in_err-front.field-0.0 c.from_residual.ensures.1, ← c.in_err-front.ensures)

pub front_end-requires : goal.front_end-requires
front_end-requires c = (front_in c.args.reader.bytes.now (sym c.in_ok-front.ensures)).0

pub symbol_count-requires : goal.symbol_count-requires
symbol_count-requires c = (front_in c.args.reader.bytes.now (sym c.in_ok-front.ensures)).0.fixed

pub symbols_at-requires : goal.symbols_at-requires
symbols_at-requires c =
    let s = front_in c.args.reader.bytes.now (sym c.in_ok-front.ensures) in (
      omega (arith, c.front_end.ensures, s.0.fixed.topstate, s.0.fixed.topevent),
      omega (arith, c.symbol_count.ensures, symbols_few _ s.0.fixed),
      omega (arith, c.front_end.ensures, s.1),
    )

pub returns-in_err-symbols_at : goal.returns-in_err-symbols_at
unfolding preamble
returns-in_err-symbols_at c =
    let f = symbols_moved c.args.reader.bytes.now (Err c.in_err-symbols_at.field-0.0) c.front_end.ensures c.symbol_count.ensures c.in_err-symbols_at.ensures in
    rw (
      handed c.from_residual-in_err-symbols_at.result c.in_err-symbols_at.field-0.0 c.from_residual-in_err-symbols_at.ensures.1,
      ← c.in_ok-front.ensures,
      f,
    )

pub returns : goal.returns
unfolding preamble
returns c =
    let f = symbols_moved c.args.reader.bytes.now (Ok tt) c.front_end.ensures c.symbol_count.ensures c.in_ok-symbols_at.ensures in
    rw (← c.in_ok-front.ensures, f)
