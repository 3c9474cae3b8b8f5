use Rattle.witness_log.proofs.FollowingOn.{Along}
use Rattle.witness_log.proofs.following.follow.Given as goal

abbrev pub invariant-loop-byte : goal.invariant-loop-byte
invariant-loop-byte l = Along l.fn.table l.fn.header l.fn.followed l.fn.bytes l.now l.byte-index
