use Rattle.std.proofs.Common.{ℕ, ◌<◌, get_or}
use Rattle.stateset.specs.Set.{In}
use Rattle.witness.proofs.walks.layer_of.Given as goal

-- no layer that was passed has the state
abbrev pub invariant-loop-d : goal.invariant-loop-d
invariant-loop-d l = (k : ℕ) → k < l.d → In l.state (get_or l.layers k 0) → ⊥
