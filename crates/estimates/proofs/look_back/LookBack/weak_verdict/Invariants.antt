-- What the loops of `LookBack::weak_verdict` know, in the order of source document 000's Proposition 4: "noleak if ∀ k ∈ [0, K] : m(k) ∉ 2^S,
-- leak_l where l = min{k ∈ [0, K] | m(k) ∈ 2^S} otherwise". Its k is the loop's l, taken up from 0 upward. Whenever the loop takes up a step l, it knows
-- `NoLeakBelow`:
-- for every i < l a compatible run with a position of count n − i that is not secret, so that no smaller step is a leak.
--
-- Where the two differ, and how they meet:
-- - The proposition reads m(l) off a K-delay trajectory estimator, a set of state sequences. Ours keeps for each step the states right after its event,
--   judged by the events up to it (`Remembers.entries_are`), and `then` has the states that the later events can follow (`Follows`). They meet in
--   `DelayedEstimate`, the states at the positions of count n − l of compatible runs: m(l) is that by Proposition 3 (published/proofs/Estimators:
--   `estimator_delayed`), and it is where unobservable transitions after the step's event lead, within `then` (`LookBack`: `delayed_is`).
-- - The proposition's k goes to K, the loop's l to `last`, which is K or n, whichever is less. For k past n, m(k) is m(n), since that estimator starts with
--   its first state repeated (`estimator_delayed` too), so that no verdict is lost; from `last` to K: `Judging`: `tells_up`.
-- Assumes nothing.
use Rattle.std.proofs.Common.{List, ℕ, ◌+◌, ◌-◌, ◌^◌, ◌≤◌, ◌<◌, length}
use Rattle.automaton.specs.Reaching.{DelayedEstimate}
use Rattle.opacity.specs.declared.Notion.TheVariants.{Weak}
use Rattle.opacity.specs.Secrets.{secret_of}
use Rattle.opacity.specs.Verdicts.{NoLeakBelow}
use Rattle.estimates.specs.StepsBack.{DecidedBy, Follows, looked_at, LooksAt}
use Rattle.estimates.proofs.Passing.{Passed}
use Rattle.estimates.proofs.look_back.LookBack.weak_verdict.Given as goal

-- 'steps: no step below l is a leak; and where l is a step, `then` has the states that the last l events can follow, and `possible` is a part of m(l) that
-- decides
abbrev pub invariant-steps : goal.invariant-steps
invariant-steps l =
    ((trace : List ℕ) → LooksAt l.self l.last trace → NoLeakBelow Weak (looked_at l.self) (secret_of l.secret l.last) trace l.l)
    × ((trace : List ℕ) → LooksAt l.self l.last trace → l.l ≤ l.last → Follows (looked_at l.self) l.self.states trace l.l l.then)
    × ((trace : List ℕ) → LooksAt l.self l.last trace → l.l ≤ l.last → DecidedBy l.secret (DelayedEstimate (looked_at l.self) trace (length trace - l.l)) l.possible)
    × (l.l ≤ l.last + 1) × (l.possible < 2 ^ 64)

-- 'states: what is left of the part of m(l) that is visited, and all else of it is secret
abbrev pub invariant-states : goal.invariant-states
invariant-states l = Passed l.possible l.secret l.todo

abbrev pub decreases-states : goal.decreases-states
decreases-states l = l.todo
