use Rattle.std.proofs.Common.{◌-◌, ◌/◌, ◌^◌, arith}
use Rattle.encode.proofs.Lengths.{length_number}
use Rattle.encode.proofs.Steps.{number_start, number_turn, number_end}
use Rattle.encode.proofs.Writer.put_number.Goals as goal

pub loop-i-init : goal.loop-i-init
loop-i-init c = number_start _ _

pub put_bit-requires : goal.put_bit-requires
put_bit-requires c =
    let a = c.args in
    omega (arith, c.loop-i.invariant.next, length_number c.loop-i.i (a.value / 2 ^ (a.width - c.loop-i.i)))

pub loop-i-preserved : goal.loop-i-preserved
loop-i-preserved c = number_turn _ _ _ (omega arith) c.loop-i.invariant c.put_bit.ensures

pub returns : goal.returns
returns c = number_end _ _ _ (omega arith) c.loop-i.invariant
