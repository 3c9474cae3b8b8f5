-- The bits of the symbols are there, or not.
use Rattle.std.proofs.Common.{sym, arith}
use Rattle.bitfields.specs.Bits.{bits_of}
use Rattle.bitfields.proofs.Bits.{length_bits}
use Rattle.encoding.proofs.Ended.{symbols_read, symbols_cut}
use Rattle.encoding.proofs.preamble.symbols_at.Goals as goal

pub returns-then-bytes-at : goal.returns-then-bytes-at
returns-then-bytes-at c =
    let a = c.args in
    sym (symbols_cut (bits_of a.bytes.now) a.at a.n c.requires.2 (omega (arith, length_bits a.bytes.now, c.if-bytes-at.true)))

pub returns : goal.returns
returns c =
    let a = c.args in
    sym (symbols_read (bits_of a.bytes.now) a.at a.n (omega (arith, length_bits a.bytes.now, c.if-bytes-at.false)))
