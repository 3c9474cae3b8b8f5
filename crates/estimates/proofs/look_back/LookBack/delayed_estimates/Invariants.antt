-- What the loop knows: `then` has the states that the last l events can follow, and the sets m(0) to m(l) stand in `past`.
use Rattle.std.proofs.Common.{◌≡◌, List, ℕ, ◌≤◌, length}
use Rattle.estimates.specs.StepsBack.{Follows, looked_at, LooksAt}
use Rattle.estimates.proofs.LookBack.{Past}
use Rattle.estimates.proofs.look_back.LookBack.delayed_estimates.Given as goal

abbrev pub invariant-loop-l : goal.invariant-loop-l
invariant-loop-l l =
    ((trace : List ℕ) → LooksAt l.self l.l trace → Follows (looked_at l.self) l.self.states trace l.l l.then)
    × Past (looked_at l.self) l.self.remembered.now.symbols l.self.remembered.now.entries l.past l.l
    × (l.l ≤ l.self.remembered.now.count) × (length l.past ≡ 16)
