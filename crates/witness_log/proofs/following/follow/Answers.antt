use Rattle.std.proofs.Common.{arith}
use Rattle.witness_log.proofs.FollowingOn.{along_next}
use Rattle.witness_log.proofs.following.follow.Goals as goal

pub loop-byte-preserved : goal.loop-byte-preserved
loop-byte-preserved c =
    along_next _ _ _ _ c.loop-byte.now c.loop-byte.byte-index c.step-now.result c.loop-byte.invariant (omega arith) c.step-now.ensures
