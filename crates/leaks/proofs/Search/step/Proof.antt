-- `leaks::Search::step` meets its contract: by what the estimator answers.
use Rattle.std.specs.Prelude.{Result}
use mathlib.Core.Path.{subst}
use native.Mathlib.Omega.{arith}
use borrow.Author.Rules.{rules}
use Rattle.verifier.specs.Replies.{said_by, OthersBy, AcceptingBy}
use Rattle.leaks.proofs.Searching.{step_refused, step_accepted}
use Rattle.leaks.proofs.Search.step.Statement.{statement}
use Rattle.leaks.proofs.Search.step.Tie as tie
use Rattle.verifier.specs.declared.Judgement.{Judgement}
use Rattle.refusal.specs.declared.Refusal.{Refusal}
use Rattle.opacity.specs.declared.Verdict.{Verdict}

add-next : tie.Need-overflow_add-next
add-next c = omega (arith, c.requires.0.countable c.requires.1)

accept-by-requires : tie.Need-accept_by-reply-requires
accept-by-requires c κs = search rules

enum_told : tie.Need-enum_told-1
enum_told c = search rules

enum-known-answer : tie.Need-enum_known-answer
enum-known-answer c = search rules

any-leak-requires : tie.Need-any_leak-requires
any-leak-requires c κs = search rules

returns : tie.Need-returns-in-Err
returns c =
    let called = c.accept_by-reply in
    let a = c.args in
    step_refused a.table.now a.header a.self a.byte c.requires.0 c.requires.1 _ _ called.result.estimator c.in-Err.is
    called.ensures.0

returns-2 : tie.Need-returns-in-Ok
returns-2 c =
    let called = c.accept_by-reply in
    let a = c.args in
    step_accepted a.table.now a.header a.self a.byte c.requires.0 c.requires.1 c.in-Ok.judgement called.result.estimator
    c.any_leak.result
    (subst (λ (x : Result (Judgement Verdict) Refusal). AcceptingBy a.self.notion a.table.now a.header a.self.estimator a.byte
    (said_by a.self.estimator.further x) called.result.estimator) c.in-Ok.is called.ensures.0)
    (subst (OthersBy a.self.estimator.further) c.in-Ok.is called.ensures.1)
    c.any_leak.ensures

pub step_spec : {M : Type 1} → statement M
step_spec =
    tie.close
    (tie.spec
    add-next
    accept-by-requires
    enum_told
    enum-known-answer
    any-leak-requires
    returns
    returns-2)
