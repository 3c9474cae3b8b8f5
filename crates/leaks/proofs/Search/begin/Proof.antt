-- `leaks::Search::begin` meets its contract: refused as the fresh estimator is.
use Rattle.std.specs.Prelude.{Result}
use mathlib.Core.Path.{subst}
use borrow.Author.Rules.{rules}
use Rattle.verifier.specs.Replies as verifier
use Rattle.verifier.specs.Replies.{Opening}
use Rattle.leaks.proofs.Outcomes.{begin_refused, begin_begun}
use Rattle.leaks.proofs.Search.begin.Statement.{statement}
use Rattle.leaks.proofs.Search.begin.Tie as tie
use Rattle.verifier.specs.declared.Judgement.{Judgement}
use Rattle.refusal.specs.declared.Refusal.{Refusal}
use Rattle.opacity.specs.declared.Verdicts.{Verdicts}

fresh-requires : tie.Need-fresh-reply-requires
fresh-requires c κs = search rules

enum-known-answer : tie.Need-enum_known-answer
enum-known-answer c = search rules

enum_told : tie.Need-enum_told-1
enum_told c = search rules

returns : tie.Need-returns-in-Err
returns c =
    let called = c.fresh-reply in
    let a = c.args in
    begin_refused a.notion a.table.now a.header a.further _ _
    (subst (λ (x : Result (Judgement Verdicts) Refusal). Opening a.table.now a.header a.further (verifier.said a.further x) called.result.estimator)
    c.in-Err.is called.ensures.0)

returns-2 : tie.Need-returns-in-Ok
returns-2 c =
    let called = c.fresh-reply in
    let a = c.args in
    begin_begun a.notion a.table.now a.header a.further _ called.result.estimator
    (subst (λ (x : Result (Judgement Verdicts) Refusal). Opening a.table.now a.header a.further (verifier.said a.further x) called.result.estimator)
    c.in-Ok.is called.ensures.0)

pub begin_spec : {M : Type 1} → statement M
begin_spec = tie.close (tie.spec fresh-requires enum-known-answer enum_told returns returns-2)
