-- For each of four secrets as `strong_verdict` takes its steps, from 0 upward.
use Rattle.std.proofs.Common.{◌≡◌, List, ℕ, ◌+◌, ◌^◌, ◌≤◌, ◌<◌, get_or, sym, subst, rules, arith}
use Rattle.std.specs.Int.Bits.{bit_and}
use lib.Bits.{and_le_r}
use Rattle.stateset.specs.Set.{In, complement}
use Rattle.stateset.proofs.Bits.{in_and}
use Rattle.relation.specs.Relation.{Sub, set_at}
use Rattle.relation.proofs.FourSets.{four}
use Rattle.opacity.specs.declared.Notion.TheVariants.{Strong}
use Rattle.opacity.specs.declared.Verdict.{Verdict}
use Rattle.opacity.specs.Secrets.{secret_of}
use Rattle.opacity.specs.Verdicts.{steps_of, Bounded}
use Rattle.opacity.proofs.Exactness.{below_start}
use Rattle.estimates.specs.StepsBack.{Follows, looked_at, LooksAt, Ready}
use Rattle.estimates.specs.declared.look_back.LookBack.{LookBack}
use Rattle.estimates.proofs.LookBack.{follows_start, remembers_inside, strong_sure, strong_clear}
use Rattle.verifier.specs.Inner.{verdict_at, WithStep}
use Rattle.verifier.proofs.Searching.{Searched, searched_step, searched_end, searched_bounded}
use Rattle.verifier.proofs.several.strong_verdicts.Goals as goal

-- step l is tested
tested : (b : LookBack) (secret then l : ℕ) (v w : Verdict) {trace : List ℕ} → Ready b → LooksAt b b.remembered.now.count trace → secret < 2 ^ 64
    → l ≤ b.remembered.now.count → then < 2 ^ 64 → WithStep (get_or b.remembered.now.entries l 0) then l v w
    → Searched Strong (looked_at b) (secret_of secret b.remembered.now.count) trace l v
    → Follows (looked_at b) (bit_and b.states (complement secret)) trace l then
    → Searched Strong (looked_at b) (secret_of secret b.remembered.now.count) trace (l + 1) w
tested b secret then l v w {trace} r m small within bound step x f =
    let p = looked_at b in
    let n = b.remembered.now.count in
    let E = m.entries_are l within in
    let g = r.looks in
    searched_step Strong p (secret_of secret n) trace l _ _ _ _ step within m.reached
    (strong_sure p secret trace _ l b.states _ _ small within E f (remembers_inside _ trace _ _ _ _ _ r.few g.near m) g.start)
    (strong_clear p secret trace _ l b.states _ _ small within E f bound) x

pub loop-l-init : goal.loop-l-init
loop-l-init c =
    let b = c.args.look_back in
    let p = looked_at b in
    let n = b.remembered.now.count in
    record {
      each = λ i secret h small e. (
        omega (arith, e, and_le_r b.states (complement secret)),
        λ trace m. (
          subst (λ (v : Verdict). Searched Strong p (secret_of secret n) trace 0 v) (sym (c.none_found-found.ensures i h))
              (below_start Strong p (secret_of secret n) trace),
          follows_start p _ trace,
        ),
      );
      bounded = λ i h. subst (λ (v : Verdict). Bounded n (steps_of v)) (sym (c.none_found-found.ensures i h)) tt;
    }

pub loop-l-preserved : goal.loop-l-preserved
loop-l-preserved c =
    let b = c.args.look_back in
    let p = looked_at b in
    let l = c.loop-l in
    record {
      each = λ i secret h small e. (
        four (λ j. set_at c.step_back-then.result j < 2 ^ 64) (search rules) (search rules) (search rules) (search rules) i h,
        λ trace m.
            let x = l.invariant.each i secret h small e in
            let y = x.1 trace m in
            let avoids : Follows p (bit_and b.states (complement secret)) trace l.l (set_at l.then i) =
            subst (λ (s : ℕ). Follows p s trace l.l (set_at l.then i)) e y.1 in
            let inside : Sub (set_at c.args.clear i) b.states =
            λ q j. (in_and q b.states (complement secret) (subst (λ (s : ℕ). In q s) e j)).0 in (
              tested b secret _ l.l _ _ c.requires m small (omega arith) x.0 (c.with_steps-found.ensures i h) y.0 avoids,
              c.step_back-then.ensures i h _ trace (omega arith) m inside y.1,
            ),
      );
      bounded = λ i h. searched_bounded (c.with_steps-found.ensures i h) (omega arith) (l.invariant.bounded i h);
    }

-- the last step
pub returns : goal.returns
returns c i secret h small e =
    let b = c.args.look_back in
    let p = looked_at b in
    let l = c.loop-l in
    let n = b.remembered.now.count in
    let end : l.l ≡ n = omega arith in
    let x = rw end at (l.invariant.each i secret h small e) in
    record {
      bounded = searched_bounded (c.with_steps.ensures i h) (omega arith) (l.invariant.bounded i h);
      exact = λ trace m.
          let y = x.1 trace m in
          let avoids : Follows p (bit_and b.states (complement secret)) trace n (set_at l.then i) =
          subst (λ (s : ℕ). Follows p s trace n (set_at l.then i)) e y.1 in
          searched_end Strong p (secret_of secret n) trace n (verdict_at c.with_steps.result i) (omega arith)
          (tested b secret _ n _ _ c.requires m small (omega arith) x.0 (c.with_steps.ensures i h) y.0 avoids);
    }
