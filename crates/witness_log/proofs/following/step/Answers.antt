use Rattle.witness_log.proofs.FollowingOn.{step_refused, step_accepted}
use Rattle.witness_log.proofs.following.step.Goals as goal

pub returns-in-Err : goal.returns-in-Err
returns-in-Err c =
    let a = c.args in
    let called = c.accept_by-reply in
    step_refused a.table.now a.header a.followed a.byte called.result.answer called.result.estimator called.ensures.0
    c.in-Err.field-0 c.in-Err.is

pub returns-in-Ok : goal.returns-in-Ok
returns-in-Ok c =
    let a = c.args in
    let called = c.accept_by-reply in
    step_accepted a.table.now a.header a.followed a.byte called.result.answer called.result.estimator called.ensures.0
    c.in-Ok.field-0 c.in-Ok.is
