-- How long a symbol waits: for how many later ones, by the verdicts of the trace that ends with it.
use Rattle.std.specs.Prelude.{List, ◌↔◌, ℕ, ◌+◌, ◌-◌, ◌≤◌, get_or}
use Rattle.opacity.specs.declared.Secret.{Secret}
use Rattle.opacity.specs.Secrets.{ForEach}
use Rattle.opacity.specs.Verdicts.{Steps, none, leak}

-- by the verdict of one secret with this K: how many later symbols make the trace safe (02, S-7: K + 1 less the steps of a leak, 0 for none; the steps are at
-- most K)
abbrev pub wait_of : ℕ → Steps → ℕ
wait_of K none = 0
wait_of K (leak l) = K + 1 - l

-- the largest of the waits of all secrets that are given: a trace with these verdicts is safe for all of them once it is over
abbrev pub LargestWait : List Secret → List Steps → ℕ → Type 0
LargestWait cs vs w = (m : ℕ) → ForEach cs (λ i c. wait_of c.k (get_or vs i none) ≤ m) ↔ (w ≤ m)
