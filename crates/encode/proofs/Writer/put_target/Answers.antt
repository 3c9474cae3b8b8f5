use Rattle.encode.proofs.Steps.{target_in, target_out}
use Rattle.encode.proofs.Writer.put_target.Goals as goal

pub returns-then-row-to-eq1 : goal.returns-then-row-to-eq1
returns-then-row-to-eq1 c = target_in _ _ _ _ c.if-row-to-eq1.true c.put_transition.ensures

pub returns-else-row-to-eq1 : goal.returns-else-row-to-eq1
returns-else-row-to-eq1 c = target_out _ _ _ _ _ c.if-row-to-eq1.false
