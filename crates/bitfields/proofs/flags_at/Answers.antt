-- The test says whether the bits reach as far as the flags do.
use Rattle.std.proofs.Common.{◌+◌, length, arith}
use borrow.Author.Tests.{le-leb, lt-leb}
use Rattle.bitfields.specs.Bits.{bits_of}
use Rattle.bitfields.specs.Parser.{flags}
use Rattle.bitfields.proofs.Bits.{length_bits}
use Rattle.bitfields.proofs.flags_at.Goals as goal

pub returns-then-bytes-at : goal.returns-then-bytes-at
unfolding flags
returns-then-bytes-at c =
    let a = c.args in
    let l = length_bits a.bytes.now in
    rw (lt-leb (a.at + a.n) (length (bits_of a.bytes.now)) (omega arith))

pub set_at-requires : goal.set_at-requires
set_at-requires c = (omega arith, omega arith, omega (arith, length_bits c.args.bytes.now))

pub returns : goal.returns
unfolding flags
returns c =
    let a = c.args in
    let l = length_bits a.bytes.now in
    rw (le-leb (a.at + a.n) (length (bits_of a.bytes.now)) (omega arith), c.set_at.ensures)
