use Rattle.std.proofs.Common.{arith}
use Rattle.encode.specs.Rising.{in_row}
use Rattle.encode.proofs.Lengths.{targets_bits}
use Rattle.encode.proofs.Steps.{writes_start, writes_more, targets_none, targets_more}
use Rattle.encode.proofs.Writer.put_row.Goals as goal

pub loop-to-init : goal.loop-to-init
loop-to-init c = writes_start _ _ (targets_none _ _ _)

pub put_target-requires : goal.put_target-requires
put_target-requires c =
    let a = c.args in
    omega (arith, c.loop-to.invariant.next, targets_bits (λ t. in_row a.row t.to) a.from a.event c.loop-to.to)

pub loop-to-preserved : goal.loop-to-preserved
loop-to-preserved c = writes_more _ _ _ (targets_more _ _ _ _) c.loop-to.invariant c.put_target.ensures
