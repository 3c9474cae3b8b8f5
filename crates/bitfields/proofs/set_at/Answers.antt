-- One bit more of the set, by `set_more`.
use Rattle.std.proofs.Common.{◌+◌, arith}
use Rattle.bitfields.specs.Bits.{bits_of}
use Rattle.bitfields.proofs.Bits.{bit_lt, number_one, or_bit, set_lt, set_more, set_none}
use Rattle.bitfields.proofs.set_at.Goals as goal

pub loop-i-init : goal.loop-i-init
loop-i-init c = rw set_none

pub loop-i-preserved : goal.loop-i-preserved
loop-i-preserved c =
    let a = c.args in
    let l = c.loop-i in
    let bs = a.bytes.now in rw (
      c.number_at.ensures,
      number_one (bits_of bs) (a.at + l.i) (omega arith),
      l.invariant,
      or_bit _ _ _ (bit_lt bs (a.at + l.i)) (omega arith) (set_lt bs a.at l.i (omega arith)),
      set_more (bits_of bs) a.at l.i (omega arith),
    )
