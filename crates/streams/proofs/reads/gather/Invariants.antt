use Rattle.std.proofs.Common.{length, ◌-◌, ◌≤◌, ◌≡◌}
use Rattle.streams.proofs.reads.gather.Given as goal

abbrev pub invariant-loop-have : goal.invariant-loop-have
invariant-loop-have g l = (l.have ≤ length l.input) × (length l.input ≡ length l.fn.input) × (l.have ≤ l.fn.size)

abbrev pub decreases-loop-have : goal.decreases-loop-have
decreases-loop-have g l = length l.input - l.have
