-- none of the symbols so far is above `most`
use Rattle.std.proofs.Common.{ℕ, ◌<◌, ◌≤◌, get_or}
use Rattle.automaton.proofs.upper_bound.Given as goal

abbrev pub invariant-loop-s : goal.invariant-loop-s
invariant-loop-s l = (k : ℕ) → k < l.s-index → get_or l.fn.symbols k 0 ≤ l.most
