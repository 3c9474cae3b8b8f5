-- `LookBack::weak_verdict` meets its contract, step by step beside source document 000's Proposition 4 (Invariants has its words). Assumes nothing.
use Rattle.std.proofs.Common.{List, ℕ, ◌+◌, ◌-◌, ◌≤◌, length, rules, arith}
use Rattle.std.specs.Int.Count.{count_trailing_zeros}
use Rattle.stateset.proofs.Bits.{taken, in_test}
use Rattle.automaton.specs.Notion.{ClearAt}
use Rattle.opacity.specs.declared.Notion.TheVariants.{Weak}
use Rattle.opacity.specs.Secrets.{secret_of}
use Rattle.opacity.specs.Verdicts.{NoLeakBelow}
use Rattle.estimates.proofs.Passing.{pass_turn, pass_end, digit_in}
use Rattle.estimates.specs.StepsBack.{Follows, looked_at, LooksAt}
use Rattle.estimates.proofs.LookBack.{follows_start, follows_step, remembers_inside, delayed_is, delayed_by}
use Rattle.estimates.proofs.LookBack.{estimate_by, decided_sure, decided_clear}
use Rattle.opacity.proofs.Exactness.{below_start, below_step, below_leak, below_last}
use Rattle.estimates.proofs.look_back.LookBack.weak_verdict.Goals as goal
use Rattle.estimates.proofs.look_back.LookBack.weak_verdict.Goals.{Else-todo-eq0, else-states-test, then-states-test+then-secret-q-eq0, then-l-last, else-l-last}

-- Start, "k ∈ [0, ..": the loop takes up step 0, and there is no smaller one. m(0) is the estimate

pub steps-init : goal.steps-init
steps-init c =
    let g = c.requires.0.looks in (
      λ trace m. below_start Weak (looked_at c.args.self) (secret_of c.args.secret c.args.self.remembered.now.count) trace,
      λ trace m _. follows_start (looked_at c.args.self) _ trace,
      λ trace m _. estimate_by (looked_at c.args.self) _ trace _ _ _ _ _ _ g.start c.requires.0.few g.near m c.requires.1,
      omega arith,
      search rules,
    )

-- One step, "m(l) ∈ 2^S" or not: the states of a part of m(l) are visited, and the first that is not secret ends the visit ('states). The state that is
-- visited is secret

pub states-preserved : goal.states-preserved
states-preserved c =
    let todo = c.states.todo in
    let q = count_trailing_zeros 64 todo in
    pass_turn _ _ _ q _ (taken todo (omega arith) c.states.invariant.small) (digit_in q c.args.secret c.if-secret-q-eq0.false) c.states.invariant

-- "m(l) ∉ 2^S": the state at which the visit ended is not secret, and a run through it excuses the system; so that, with what was known below l, no step below
-- l + 1 is a leak
below_next : (c : Else-todo-eq0) (trace : List ℕ) → LooksAt c.args.self c.args.self.remembered.now.count trace
    → NoLeakBelow Weak (looked_at c.args.self) (secret_of c.args.secret c.args.self.remembered.now.count) trace (c.steps.l + 1)
below_next c trace m =
    let s = c.steps in
    let p = looked_at c.args.self in
    let todo = c.states.todo in
    let q = count_trailing_zeros 64 todo in
    let clear : ClearAt p c.args.secret trace (length trace - s.l) = elim c.states-test.branch [
      | else-states-test w ↦ absurd (omega (arith, w.states-test.false, c.if-todo-eq0.false))
      | then-states-test+then-secret-q-eq0 w ↦
          let t = taken todo (omega arith) c.states.invariant.small in
          decided_clear _ _ trace _ _ (s.invariant.2 trace m (omega arith)) q (c.states.invariant.kept q t.inside)
          (λ i. omega (arith, in_test q c.args.secret, w.if-secret-q-eq0.true))
    ] in
    below_step Weak p (secret_of c.args.secret c.args.self.remembered.now.count) trace _ (s.invariant.0 trace m) clear

-- and the loop takes up step l + 1, with a part of m(l + 1) that decides
pub steps-preserved : goal.steps-preserved
steps-preserved c =
    let s = c.steps in
    let a = c.args in
    let p = looked_at a.self in
    let g = c.requires.0.looks in
    elim c.if-l-last.branch [
      | then-l-last w ↦
          let next : s.l + 1 ≤ a.self.remembered.now.count = omega arith in
          let follows : (trace : List ℕ) → LooksAt a.self a.self.remembered.now.count trace → Follows p a.self.states trace (s.l + 1) w.backward_reach-then.result =
          λ trace m.
          let shown = (rw w.from-at.ensures at w.events_with-shown.ensures) _ g.symbols_small g.sets_are in
          follows_step _ _ trace a.self.remembered.now.count _ _ _ _ m (omega arith)
          (w.backward_reach-then.ensures _ _ _ _ g.table_is shown (g.back_are (omega arith)) (λ q i. i) (s.invariant.1 trace m (omega arith))) in
          rw (w.then-is, w.possible-is) (
            below_next (goal.at.steps-preserved c).Else-todo-eq0,
            λ trace m _. follows trace m,
            λ trace m _.
                let part = rw w.from-at.ensures at w.possible_states-possible.ensures in
                delayed_by p _ trace (s.l + 1) _ _
                (delayed_is p trace _ (s.l + 1) _ _ g.start next (remembers_inside p trace _ _ _ _ _ c.requires.0.few g.near m) (follows trace m))
                (part p _ g.start g.near.closed (λ q i. g.near.inside (s.l + 1) q (omega (arith, c.requires.0.few)) i) (m.entries_are (s.l + 1) next)),
            omega arith,
            omega arith,
          )
      | else-l-last w ↦ absurd (omega (arith, w.if-l-last.false))
    ]

-- First exit, "leak_l where l = min{..}": m(l) ∈ 2^S, every state that was visited is secret; and l is the least because no step below it is a leak

pub returns-then-todo-eq0 : goal.returns-then-todo-eq0
returns-then-todo-eq0 c =
    let s = c.steps in
    let few : s.l ≤ c.args.self.remembered.now.count = omega arith in
    record {
      bounded = few;
      exact = λ trace m.
          below_leak Weak _ (secret_of c.args.secret c.args.self.remembered.now.count) trace _ few m.reached (s.invariant.0 trace m)
          (decided_sure _ _ trace _ _ (s.invariant.2 trace m few) (λ q i. pass_end _ _ _ c.if-todo-eq0.true c.states.invariant q i));
    }

-- Second exit, "noleak if ∀ k ∈ [0, K] : m(k) ∉ 2^S": step l was the last one, K or n (and m(k) for k past n is m(n)), and no leak, so that no step below
-- l + 1 is one

pub returns-after-l-last : goal.returns-after-l-last
returns-after-l-last c =
    record {
      bounded = tt;
      exact = λ trace m.
          below_last Weak _ (secret_of c.args.secret c.args.self.remembered.now.count) trace c.steps.l (omega arith)
          (below_next (goal.at.returns-after-l-last c).Else-todo-eq0 trace m);
    }

-- the events that show the symbol are among the 32
pub backward_reach-then-requires : goal.backward_reach-then-requires
backward_reach-then-requires c =
    let g = c.requires.0.looks in
    (c.requires.0.words, λ e i. ((c.events_with-shown.ensures _ g.symbols_small g.sets_are).sound e i).0)
