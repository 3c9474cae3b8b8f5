-- `LookBack::strong_verdict` meets its contract, in the order of `weak_verdict`: the steps from 0 upward, and at each step l that the loop takes up no step
-- below l is a leak (`NoLeakBelow`, by the strong notion). What a step tests is another: a state right after the event l steps back from which the
-- later events can follow with no secret state. Assumes nothing.
use Rattle.std.proofs.Common.{List, ℕ, ◌+◌, ◌≤◌, arith}
use Rattle.stateset.specs.Set.{complement}
use Rattle.stateset.proofs.Bits.{in_and}
use Rattle.opacity.specs.declared.Notion.TheVariants.{Strong}
use Rattle.opacity.specs.Secrets.{secret_of}
use Rattle.opacity.specs.Verdicts.{NoLeakBelow}
use Rattle.estimates.specs.StepsBack.{looked_at, LooksAt}
use Rattle.estimates.proofs.LookBack.{follows_step, remembers_inside, strong_sure, strong_clear}
use Rattle.opacity.proofs.Exactness.{below_step, below_leak, below_last}
use Rattle.estimates.proofs.look_back.LookBack.strong_verdict.Goals as goal
use Rattle.estimates.proofs.look_back.LookBack.strong_verdict.Goals.{Else-self-at-eq0, then-l-last, else-l-last}

-- a state right after the symbol l steps back from which a run avoids the secret: with what was known below l, no step below l + 1 is a leak
below_next : (c : Else-self-at-eq0) (trace : List ℕ) → LooksAt c.args.self c.args.self.remembered.now.count trace
    → NoLeakBelow Strong (looked_at c.args.self) (secret_of c.args.secret c.args.self.remembered.now.count) trace (c.loop-l.l + 1)
below_next c trace m =
    let s = c.loop-l in
    let a = c.args in
    let p = looked_at a.self in
    let few : s.l ≤ a.self.remembered.now.count = omega arith in
    let some = rw c.from-at.ensures at c.if-self-at-eq0.false in
    below_step Strong p (secret_of a.secret a.self.remembered.now.count) trace _ (s.invariant.0 trace m)
    (strong_clear _ _ trace _ s.l a.self.states _ _ c.ranges.secret.fits few (m.entries_are s.l few) (s.invariant.1 trace m few) s.invariant.3 some)

-- leak l, the least because no step below it is one
pub returns-then-self-at-eq0 : goal.returns-then-self-at-eq0
returns-then-self-at-eq0 c =
    let s = c.loop-l in
    let a = c.args in
    let g = c.requires.looks in
    let few : s.l ≤ a.self.remembered.now.count = omega arith in
    let none = rw c.from-at.ensures at c.if-self-at-eq0.true in
    record {
      bounded = few;
      exact = λ trace m.
          below_leak Strong _ (secret_of a.secret a.self.remembered.now.count) trace _ few m.reached (s.invariant.0 trace m)
          (strong_sure _ _ trace _ s.l a.self.states _ _ c.ranges.secret.fits few (m.entries_are s.l few) (s.invariant.1 trace m few)
          (remembers_inside _ trace _ _ _ _ _ c.requires.few g.near m) g.start none);
    }

-- and the loop takes up step l + 1
pub loop-l-preserved : goal.loop-l-preserved
loop-l-preserved c =
    let s = c.loop-l in
    let a = c.args in (
      below_next (goal.at.loop-l-preserved c).Else-self-at-eq0,
      λ trace m next. elim c.if-l-last.branch [
        | then-l-last w ↦
            let g = c.requires.looks in
            let shown = (rw c.from-at.ensures at w.events_with-shown.ensures) _ g.symbols_small g.sets_are in
            rw w.then-is
            (follows_step _ _ trace a.self.remembered.now.count _ _ _ _ m (omega arith)
            (w.backward_reach-then.ensures _ _ _ _ g.table_is shown (g.back_are (omega arith)) (λ q i. (in_and q a.self.states (complement a.secret) i).0)
            (s.invariant.1 trace m (omega arith))))
        | else-l-last w ↦ absurd (omega (arith, w.if-l-last.false))
      ],
      omega arith,
      elim c.if-l-last.branch [ then-l-last w ↦ omega arith | else-l-last w ↦ omega arith ],
    )

-- step l is the last one, K or n, and no leak
pub returns-after-l-last : goal.returns-after-l-last
returns-after-l-last c =
    record {
      bounded = tt;
      exact = λ trace m.
          below_last Strong _ (secret_of c.args.secret c.args.self.remembered.now.count) trace c.loop-l.l (omega arith)
          (below_next (goal.at.returns-after-l-last c).Else-self-at-eq0 trace m);
    }

-- the events that show the symbol are among the 32
pub backward_reach-then-requires : goal.backward_reach-then-requires
backward_reach-then-requires c =
    let g = c.requires.looks in
    (c.requires.words, λ e i. ((c.events_with-shown.ensures _ g.symbols_small g.sets_are).sound e i).0)
