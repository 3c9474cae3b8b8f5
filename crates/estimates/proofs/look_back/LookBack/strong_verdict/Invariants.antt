-- What the loop knows when it takes up step l: no step below l is a leak, and `then` has the states from which the last l events can follow with no secret
-- state.
use Rattle.std.proofs.Common.{List, ℕ, ◌+◌, ◌^◌, ◌≤◌, ◌<◌}
use Rattle.opacity.specs.declared.Notion.TheVariants.{Strong}
use Rattle.opacity.specs.Secrets.{secret_of}
use Rattle.opacity.specs.Verdicts.{NoLeakBelow}
use Rattle.estimates.specs.StepsBack.{Follows, looked_at, LooksAt}
use Rattle.estimates.proofs.look_back.LookBack.strong_verdict.Given as goal

abbrev pub invariant-loop-l : goal.invariant-loop-l
invariant-loop-l l =
    ((trace : List ℕ) → LooksAt l.self l.last trace → NoLeakBelow Strong (looked_at l.self) (secret_of l.secret l.last) trace l.l)
    × ((trace : List ℕ) → LooksAt l.self l.last trace → l.l ≤ l.last → Follows (looked_at l.self) l.clear trace l.l l.then)
    × (l.l ≤ l.last + 1) × (l.then < 2 ^ 64)
