-- `Enforcer::start` meets its contract: what the fresh estimator was told, and the largest wait of the opening verdicts.
use Rattle.std.specs.Prelude.{Result}
use mathlib.Core.Path.{subst, refl}
use Rattle.refusal.specs.Refusals.{number_of}
use Rattle.opacity.specs.Secrets.{secrets_of}
use Rattle.verifier.specs.Replies as verifier
use Rattle.verifier.specs.Replies.{Opening, findings}
use Rattle.verifier.specs.Replies.{chosen_each, steps_each}
use Rattle.enforcer.specs.Waits.{LargestWait}
use Rattle.enforcer.proofs.Arrays.{padded_zeros}
use Rattle.enforcer.proofs.Starts.{start_refused, opened_given, start_open, start_ready}
use borrow.Author.Rules.{rules}
use Rattle.enforcer.proofs.Enforcer.start.Statement.{statement}
use Rattle.enforcer.proofs.Enforcer.start.Tie as tie
use Rattle.verifier.specs.declared.EachSecret.{EachSecret}
use Rattle.verifier.specs.declared.Judgement.{Judgement}
use Rattle.refusal.specs.declared.Refusal.{Refusal}
use Rattle.opacity.specs.declared.Verdict.{Verdict}
use Rattle.opacity.specs.declared.Verdicts.{Verdicts}

fresh-requires : tie.Need-fresh-reply-requires
fresh-requires c κs = search rules

enum-known-answer : tie.Need-enum_known-answer
enum-known-answer c = search rules

enum-known-answer-2 : tie.Need-enum_known-answer-in-Ok-1
enum-known-answer-2 c = search rules

choose-each-requires : tie.Need-choose_each-verdicts-requires
choose-each-requires c κs = search rules

-- the opening, where the verifier gave verdicts
opening : (u : tie.After-choose_each-verdicts) → Opening u.args.table.now u.args.header u.args.further
    (verifier.verdicts (findings u.args.further u.in-Ok.judgement))
    u.fresh-reply.result.estimator
opening u =
    let a = u.args in
    let called = u.fresh-reply in
    subst (λ (x : Result (Judgement Verdicts) Refusal). Opening a.table.now a.header a.further (verifier.said a.further x) called.result.estimator)
    u.in-Ok.is
    called.ensures.0

largest-wait-requires : tie.Need-largest_wait-largest-requires
largest-wait-requires c κs = let j = c.in-Ok.judgement in opened_given _ _ _ j _ (opening c)

-- the largest wait of the verdicts by the notion
largest : (u : tie.After-largest_wait-largest) → LargestWait (secrets_of u.args.header u.args.further)
    (steps_each u.args.further (chosen_each u.args.notion u.in-Ok.judgement.verdicts))
    u.largest_wait-largest.result
largest u =
    let a = u.args in
    subst (λ (v : EachSecret Verdict). LargestWait (secrets_of a.header a.further) (steps_each a.further v) u.largest_wait-largest.result)
    u.choose_each-verdicts.ensures
    u.largest_wait-largest.ensures

returns : tie.Need-returns-then-largest-ne0
returns c =
    let j = c.in-Ok.judgement in
    start_open _ _ _ _ j _ _ (largest c.before) _ (opening c.before.before) c.if-largest-ne0.true refl

returns-2 : tie.Need-returns-in-Err
returns-2 c =
    let a = c.args in
    let called = c.fresh-reply in
    start_refused a.table.now a.header a.further a.notion (number_of c.in-Err.refusal) called.result.estimator _
    (subst (λ (x : Result (Judgement Verdicts) Refusal). Opening a.table.now a.header a.further (verifier.said a.further x) called.result.estimator)
    c.in-Err.is called.ensures.0) refl

returns-3 : tie.Need-returns-else-largest-ne0
returns-3 c =
    let j = c.in-Ok.judgement in
    start_ready _ _ _ _ j _ _ (largest c.before) _ _ (padded_zeros 16 0) (padded_zeros 16 0) (opening c.before.before) c.if-largest-ne0.false

pub start_spec : {M : Type 1} → statement M
start_spec =
    tie.close
    (tie.spec
    fresh-requires
    enum-known-answer
    enum-known-answer-2
    choose-each-requires
    largest-wait-requires
    returns
    returns-2
    returns-3)
