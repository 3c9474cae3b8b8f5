use Rattle.std.proofs.Common.{length, ◌-◌, ◌≤◌, ◌≡◌}
use Rattle.log_output.specs.Progressing.{Usable}
use Rattle.log_output.proofs.Keeping.{Along}
use Rattle.log_output.proofs.following.follow.Given as goal

abbrev pub invariant-loop-i : goal.invariant-loop-i
invariant-loop-i g l = (l.i ≤ length l.events) × (length l.out ≡ length l.fn.out)
    × (Usable l.fn.table l.fn.header l.fn.progress l.fn.out → Along l.fn.table l.fn.header l.fn.progress l.fn.events l.fn.out l.i l.now l.out)

abbrev pub decreases-loop-i : goal.decreases-loop-i
decreases-loop-i g l = length l.events - l.i
