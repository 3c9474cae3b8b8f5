-- The test says whether the bits reach as far as the field does.
use Rattle.std.proofs.Common.{◌+◌, length, arith}
use borrow.Author.Tests.{le-leb, lt-leb}
use Rattle.bitfields.specs.Bits.{bits_of}
use Rattle.bitfields.specs.Parser.{field}
use Rattle.bitfields.proofs.Bits.{length_bits}
use Rattle.bitfields.proofs.field_at.Goals as goal

pub returns-then-bytes-at : goal.returns-then-bytes-at
unfolding field
returns-then-bytes-at c =
    let a = c.args in
    let l = length_bits a.bytes.now in
    rw (lt-leb (a.at + a.width) (length (bits_of a.bytes.now)) (omega arith))

pub number_at-requires : goal.number_at-requires
number_at-requires c = (omega arith, omega arith, omega (arith, length_bits c.args.bytes.now))

pub returns : goal.returns
unfolding field
returns c =
    let a = c.args in
    let l = length_bits a.bytes.now in
    rw (le-leb (a.at + a.width) (length (bits_of a.bytes.now)) (omega arith), c.number_at.ensures)
