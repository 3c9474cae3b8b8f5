-- streams/proofs/following/read_on/Invariants.antt
use Rattle.std.proofs.Common.{length, ◌≤◌, ◌≡◌}
use Rattle.streams.proofs.Feeding.{SoFar}
use Rattle.streams.proofs.following.read_on.Given as goal

abbrev pub invariant-loop-header : goal.invariant-loop-header
invariant-loop-header g l =
    (length l.input ≡ length l.fn.input) × (l.rest ≤ l.fn.left) × g.F.Follower.Takes l.now l.rest
    × SoFar (g.F.Follower.Goes l.fn.table l.fn.header) g.F.Follower.done l.fn.left l.fn.follower l.rest l.now

abbrev pub decreases-loop-header : goal.decreases-loop-header
decreases-loop-header g l = l.rest
