-- `LookBack::delayed_estimates` meets its contract: m(0) is the estimate, and each further set is where unobservable transitions after the step's event
-- lead, within the states that the later events can follow. Assumes nothing.
use Rattle.std.proofs.Common.{◌≡◌, sym, subst, ◌∙◌, List, ℕ, ◌+◌, ◌≤◌, length, get_or, set, bit_and, rules, arith}
use Rattle.std.proofs.Math.ListN.{length-set}
use Rattle.std.proofs.Math.Seq.{get_or-set_same}
use Rattle.estimates.specs.Estimates.{UnobservableReach}
use Rattle.estimates.specs.StepsBack.{Follows, looked_at, LooksAt}
use Rattle.estimates.proofs.LookBack.{remembers_part, follows_start, delayed_whole, past_start, past_turn}
use Rattle.estimates.proofs.look_back.LookBack.delayed_estimates.Goals as goal

pub loop-l-init : goal.loop-l-init
loop-l-init c =
    let size : length c.args.past.now ≡ 16 = search rules in
    let a = c.args in
    let g = c.requires.0.looks in
    let first : get_or (set a.past.now 0 a.self.estimate) 0 0 ≡ a.self.estimate = get_or-set_same a.past.now 0 _ 0 (omega (arith, size)) in (
      λ trace m. follows_start (looked_at a.self) _ trace,
      past_start (looked_at a.self) _ _ _ _ _ g.start g.near
          (subst (UnobservableReach (looked_at a.self) (get_or a.self.remembered.now.entries 0 0)) (sym first) c.requires.1),
      omega arith,
      length-set a.past.now 0 a.self.estimate ∙ size,
    )

pub loop-l-preserved : goal.loop-l-preserved
loop-l-preserved c =
    let s = c.loop-l in
    let p = looked_at c.args.self in
    let g = c.requires.0.looks in
    let then = c.step_back-then.result in
    let found = bit_and c.unobservable_reach.result then in
    let next : s.l + 1 ≤ 15 = omega (arith, c.requires.0.few) in
    let follows : (trace : List ℕ) → LooksAt c.args.self (s.l + 1) trace → Follows p c.args.self.states trace (s.l + 1) then =
    λ trace m. c.step_back-then.ensures _ trace (omega arith) m (λ q i. i) (s.invariant.0 trace (remembers_part m s.l (omega arith))) in (
      follows,
      past_turn p _ _ s.past s.l found (omega (arith, s.invariant.3)) s.invariant.1
          (λ trace m.
          delayed_whole p trace (s.l + 1) (s.l + 1) _ _ _ _ _ _ g.start next (omega arith) g.near m (follows trace m)
          (c.unobservable_reach.ensures.1 p _ g.start g.near.closed (λ q i. g.near.inside (s.l + 1) q (omega arith) i)
          (m.entries_are (s.l + 1) (omega arith)))),
      omega arith,
      length-set s.past (s.l + 1) found ∙ s.invariant.3,
    )

pub returns : goal.returns
returns c =
    let s = c.loop-l in
    record { size = s.invariant.3; are = λ trace l h m. s.invariant.1 trace l (omega arith) m }
