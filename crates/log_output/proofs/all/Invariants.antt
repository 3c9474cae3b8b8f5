use Rattle.std.proofs.Common.{length, ◌≤◌, ◌≡◌}
use Rattle.log_output.proofs.ReadingOn.{SoFar}
use Rattle.log_output.proofs.all.Given as goal

abbrev pub invariant-loop-header : goal.invariant-loop-header
invariant-loop-header g l = (length l.input ≡ length l.fn.input) × (length l.out ≡ length l.fn.out) × (l.rest ≤ l.fn.left)
    × SoFar l.fn.table l.fn.header l.fn.left l.fn.progress l.fn.out l.rest l.now l.out

abbrev pub decreases-loop-header : goal.decreases-loop-header
decreases-loop-header g l = l.rest
