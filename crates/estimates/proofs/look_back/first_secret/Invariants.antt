-- What the loop knows when it takes up step l: no step below l is a leak.
use Rattle.std.proofs.Common.{◌+◌, ◌≤◌}
use Rattle.opacity.specs.declared.Notion.TheVariants.{Weak}
use Rattle.opacity.specs.Secrets.{secret_of}
use Rattle.opacity.specs.Verdicts.{NoLeakBelow}
use Rattle.estimates.proofs.LookBack.{ForPast}
use Rattle.estimates.proofs.look_back.first_secret.Given as goal

abbrev pub invariant-loop-l : goal.invariant-loop-l
invariant-loop-l l =
    ForPast l.past l.last (λ p trace. NoLeakBelow Weak p (secret_of l.secret l.last) trace l.l) × (l.l ≤ l.last + 1)
