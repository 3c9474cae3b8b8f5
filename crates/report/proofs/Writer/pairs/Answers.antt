use Rattle.report.proofs.Pairing.{pair_first, pairs_begin, pairs_turn, pairs_end}
use Rattle.report.proofs.Writer.pairs.Goals as goal

pub loop-left-init : goal.loop-left-init
loop-left-init c = pairs_begin _ _

pub loop-left-preserved : goal.loop-left-preserved
loop-left-preserved c = pairs_turn _ (pair_first c.loop-left.left.now c.in-len2-up.len_at_least) c.loop-left.invariant c.pair.ensures

pub returns : goal.returns
returns c = pairs_end c.in_default.len_below c.loop-left.invariant
