use Rattle.std.proofs.Common.{◌≡◌, arith}
use Rattle.encode.proofs.Lengths.{length_flags}
use Rattle.encode.proofs.Steps.{flags_start, flags_turn}
use Rattle.encode.proofs.Writer.put_flags.Goals as goal

pub loop-i-init : goal.loop-i-init
loop-i-init c = flags_start _ _

pub put_bit-requires : goal.put_bit-requires
put_bit-requires c = omega (arith, c.loop-i.invariant.next, length_flags c.loop-i.i c.args.set)

pub loop-i-preserved : goal.loop-i-preserved
loop-i-preserved c = flags_turn _ _ c.loop-i.invariant c.put_bit.ensures

pub returns : goal.returns
returns c =
    let e : c.loop-i.i ≡ c.args.n = omega arith in
    rw (← e) c.loop-i.invariant
