-- `explore::explore` meets its contract: what the fresh estimator was told, and what was visited.
use Rattle.std.proofs.Common.{◌≡◌, List, ℕ, sym, subst, ◌∙◌, arith}
use Rattle.std.specs.Prelude.{Result, Ok, Err}
use Rattle.automaton.specs.declared.Header.{Header}
use Rattle.opacity.specs.declared.Further.{Further}
use Rattle.verifier.specs.declared.Estimator.{Estimator}
use Rattle.refusal.specs.Refusals.{number_of}
use Rattle.refusal.specs.declared.Refusal.{Refusal}
use Rattle.opacity.specs.declared.Verdicts.{Verdicts}
use Rattle.verifier.specs.Replies as verifier
use Rattle.verifier.specs.Replies.{Opening, findings}
use Rattle.verifier.specs.declared.Judgement.{Judgement}
use Rattle.explore.proofs.Outcomes.{explore_refused, opening_well_formed, opening_allowed, opening_here, explore_none}
use Rattle.explore.proofs.explore.Goals as goal

-- what the fresh estimator was told, that was not refused
opening : (t : List ℕ) (h : Header) (f : Further) (a : Result (Judgement Verdicts) Refusal) (j : Judgement Verdicts) (e : Estimator) → a ≡ Ok j
    → Opening t h f (verifier.said f a) e → Opening t h f (verifier.verdicts (findings f j)) e
opening t h f a j e is o = subst (λ (y : Result (Judgement Verdicts) Refusal). Opening t h f (verifier.said f y) e) is o

pub returns-in_err-judgement : goal.returns-in_err-judgement
returns-in_err-judgement c =
    let a = c.args in
    let called = c.fresh-reply in
    let e : c.from_residual.result ≡ Err c.in_err-judgement.field-0.0 = grind arith in
    rw e
    (explore_refused _ _ _ _ (number_of c.in_err-judgement.field-0.0) called.result.estimator
    (subst (λ (y : Result (Judgement Verdicts) Refusal). Opening a.table.now a.header a.further (verifier.said a.further y) called.result.estimator)
    c.in_err-judgement.was called.ensures.0))

pub returns-then-most-eq0 : goal.returns-then-most-eq0
returns-then-most-eq0 c =
    explore_none _ _ _ c.in_ok-judgement.judgement _ (opening _ _ _ _ _ _ c.in_ok-judgement.was c.fresh-reply.ensures.0) _
    (sym c.limit-most.ensures ∙ c.if-most-eq0.true)

pub with_waits-first-requires : goal.with_waits-first-requires
with_waits-first-requires c =
    let o = opening _ _ _ _ _ _ c.in_ok-judgement.was c.fresh-reply.ensures.0 in
    ((opening_well_formed _ _ _ _ _ o).back, opening_allowed _ _ _ _ _ o)

pub visit-requires : goal.visit-requires
visit-requires c =
    let w = c.with_waits-first.ensures in
    let o = opening _ _ _ _ _ _ c.in_ok-judgement.was c.fresh-reply.ensures.0 in (
      opening_well_formed _ _ _ _ _ o,
      opening_allowed _ _ _ _ _ o,
      omega (arith, c.if-most-eq0.false),
      omega (arith, c.limit-most.ensures),
      rw w.0 (opening_here _ _ _ _ _ o _ _ w.1 w.2),
    )
