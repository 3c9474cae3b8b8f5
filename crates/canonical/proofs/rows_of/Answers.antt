use Rattle.canonical.proofs.Gathered.{rows_start, rows_turn}
use Rattle.canonical.proofs.rows_of.Goals as goal

pub loop-i-init : goal.loop-i-init
loop-i-init c = rows_start _ _ _

pub loop-i-preserved : goal.loop-i-preserved
loop-i-preserved c = rows_turn _ _ _ _ _ _ c.loop-i.invariant c.add_transition.ensures
