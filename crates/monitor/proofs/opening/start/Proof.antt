-- `monitor::opening::start` meets its contract: a start and a fresh verifier with no further secret.
use Rattle.std.specs.Prelude.{Result}
use mathlib.Core.Path.{subst}
use Rattle.refusal.specs.Refusals.{number_of}
use Rattle.opacity.specs.declared.Notion.TheVariants.{Weak}
use Rattle.opacity.specs.declared.Further.{Further}
use Rattle.opacity.specs.Secrets.{no_further}
use Rattle.verifier.specs.Replies as verifier
use Rattle.enforcer.specs.Offerings.{start_outcome, Starting}
use Rattle.monitor.proofs.Openings.{not_begun, is_begun, verified}
use borrow.Author.Rules.{rules}
use Rattle.monitor.proofs.opening.start.Statement.{statement}
use Rattle.monitor.proofs.opening.start.Tie as tie
use Rattle.verifier.specs.declared.Judgement.{Judgement}
use Rattle.refusal.specs.declared.Refusal.{Refusal}
use Rattle.opacity.specs.declared.Verdicts.{Verdicts}

no-further-requires : tie.Need-no_further-alone-requires
no-further-requires c κs = search rules

-- what the enforcer and the verifier promise of none further
started : (u : tie.After-start-begun) → Starting u.args.table u.args.header no_further Weak (start_outcome u.start-begun.result.answer)
    u.start-begun.result.enforcer
started u =
    subst (λ (f : Further). Starting u.args.table u.args.header f Weak (start_outcome u.start-begun.result.answer) u.start-begun.result.enforcer)
    u.no_further-alone.ensures u.start-begun.ensures

fresh : (u : tie.After-fresh-reply) → verifier.Opening u.args.table u.args.header no_further
    (verifier.said no_further u.fresh-reply.result.answer)
    u.fresh-reply.result.estimator
fresh u =
    let a = u.args in
    subst (λ (f : Further). verifier.Opening a.table a.header f (verifier.said f u.fresh-reply.result.answer) u.fresh-reply.result.estimator)
    u.no_further-alone.ensures u.fresh-reply.ensures.0

no_others : (u : tie.After-fresh-reply) → verifier.Others no_further u.fresh-reply.result.answer
no_others u = subst (λ (f : Further). verifier.Others f u.fresh-reply.result.answer) u.no_further-alone.ensures u.fresh-reply.ensures.1

slice-aggregate-start : tie.Need-slice_bounds-start-end
slice-aggregate-start c = search rules

start-requires : tie.Need-start-begun-requires
start-requires c κs = search rules

enum-known-answer : tie.Need-enum_known-answer
enum-known-answer c = search rules

refused-requires : tie.Need-refused-requires
refused-requires c κs = search rules

enum_told : tie.Need-enum_told-1
enum_told c = search rules

slice-aggregate-fresh : tie.Need-slice_bounds-fresh-end
slice-aggregate-fresh c = search rules

fresh-requires : tie.Need-fresh-reply-requires
fresh-requires c κs = search rules

enum-known-verified : tie.Need-enum_known-verified
enum-known-verified c = search rules

enum-told-2 : tie.Need-enum_told-in_default
enum-told-2 c = search rules

refused-requires-2 : tie.Need-refused-requires-in_default
refused-requires-2 c κs = search rules

-- a fresh verifier refuses no automaton
returns : tie.Need-returns-in_default
returns c =
    absurd (verified c.requires (subst (λ (x : Result (Judgement Verdicts) Refusal). verifier.Opening c.args.table c.args.header no_further (verifier.said no_further x)
    c.fresh-reply.result.estimator)
    c.in_default.is (fresh c.before.before)))

returns-2 : tie.Need-returns-in-Err
returns-2 c =
    rw c.refused.ensures.0 (not_begun c.args.table c.args.header c.args.events (number_of c.in-Err.refusal) c.start-begun.result.enforcer _ _ _ c.requires
    (subst (λ (x : Result Unit Refusal). Starting c.args.table c.args.header no_further Weak (start_outcome x) c.start-begun.result.enforcer) c.in-Err.is (started c.before.before))
    c.refused.ensures.1)

returns-3 : tie.Need-returns-in-Ok-verified
returns-3 c =
    is_begun c.args.table c.args.header c.args.events c.start-begun.result.enforcer c.in-Ok-verified.opening c.fresh-reply.result.estimator
    (subst (λ (x : Result Unit Refusal). Starting c.args.table c.args.header no_further Weak (start_outcome x) c.start-begun.result.enforcer)
    c.in-Ok.is (started c.before.before.before.before.before.before))
    (subst (λ (x : Result (Judgement Verdicts) Refusal). verifier.Opening c.args.table c.args.header no_further (verifier.said no_further x) c.fresh-reply.result.estimator) c.in-Ok-verified.is
    (fresh c.before.before.before))
    (subst (verifier.Others no_further) c.in-Ok-verified.is (no_others c.before.before.before))

pub start_spec : {M : Type 1} → statement M
start_spec =
    tie.close
    (tie.spec
    no-further-requires
    slice-aggregate-start
    start-requires
    enum-known-answer
    refused-requires
    enum_told
    slice-aggregate-fresh
    fresh-requires
    enum-known-verified
    enum-told-2
    refused-requires-2
    returns
    returns-2
    returns-3)
