use Rattle.std.proofs.Common.{arith}
use Rattle.relation.proofs.Placing.{placing_start, placing_turn}
use Rattle.relation.proofs.put_rows.Goals as goal

pub loop-i-init : goal.loop-i-init
loop-i-init c = placing_start _ _ _

pub loop-i-preserved : goal.loop-i-preserved
loop-i-preserved c = placing_turn _ _ _ _ _ _ (omega arith) (omega arith) c.loop-i.invariant
