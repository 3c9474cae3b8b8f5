-- The first `i` waits, each one less, stand in front.
use Rattle.std.proofs.Common.{◌≡◌, ℕ, ◌-◌, ◌<◌, length, get_or}
use Rattle.enforcer.proofs.nearer.Given as goal

abbrev pub invariant-loop-i : goal.invariant-loop-i
invariant-loop-i l = (length l.soon ≡ 17) × ((k : ℕ) → k < l.i → get_or l.soon k 0 ≡ get_or l.waits k 0 - 1)
