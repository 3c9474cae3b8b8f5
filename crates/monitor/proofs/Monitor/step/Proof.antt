use Rattle.std.specs.Prelude.{Result}
use mathlib.Core.Path.{subst}
use Rattle.verifier.specs.Replies as verifier
use Rattle.verifier.specs.Replies.{Accepting}
use Rattle.monitor.proofs.Outcomes.{by_verifier}
use borrow.Author.Rules.{rules}
use Rattle.monitor.proofs.Monitor.step.Statement.{statement}
use Rattle.monitor.proofs.Monitor.step.Tie as tie
use Rattle.verifier.specs.declared.Judgement.{Judgement}
use Rattle.refusal.specs.declared.Refusal.{Refusal}
use Rattle.opacity.specs.declared.Verdicts.{Verdicts}

accept-requires : tie.Need-accept-reply-requires
accept-requires c κs = search rules

enum-known-answer : tie.Need-enum_known-answer
enum-known-answer c = search rules

log-refused-requires : tie.Need-log_refused-requires
log-refused-requires c κs = search rules

enum-known-answer-2 : tie.Need-enum_known-answer-in-Ok-1
enum-known-answer-2 c = search rules

enforce-requires : tie.Need-enforce-requires
enforce-requires c κs =
    let a = c.args in
    let called = c.accept-reply in (
      c.requires.0,
      c.requires.1,
      subst (λ (x : Result (Judgement Verdicts) Refusal). Accepting a.table.now a.header a.self.estimator a.byte (verifier.said a.self.estimator.further x)
          called.result.estimator) c.in-Ok.is called.ensures.0,
    )

same_length : tie.Need-shape_of-out-in-Err
same_length c = search rules

returns : tie.Need-returns-in-Err
returns c =
    let a = c.args in
    let called = c.accept-reply in
    let done = c.log_refused in
    by_verifier a.table.now a.header a.self a.byte c.in-Err.refusal called.result.estimator
    done.result.monitor c.requires.0
    (subst (λ (x : Result (Judgement Verdicts) Refusal). Accepting a.table.now a.header a.self.estimator a.byte (verifier.said a.self.estimator.further x)
    called.result.estimator) c.in-Err.is called.ensures.0)
    done.ensures.0 done.ensures.1

same-length-2 : tie.Need-shape_of-out-in-Ok
same-length-2 c = search rules

returns-2 : tie.Need-returns-in-Ok
returns-2 c = search rules

pub step_spec : {M : Type 1} → statement M
step_spec =
    tie.close
    (tie.spec
    accept-requires
    enum-known-answer
    log-refused-requires
    enum-known-answer-2
    enforce-requires
    same_length
    returns
    same-length-2
    returns-2)
