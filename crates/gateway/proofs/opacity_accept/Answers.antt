use Rattle.std.proofs.Common.{arith}
use Rattle.gateway.specs.Interface.{Accept}
use Rattle.gateway.proofs.Entries.{accept_refused, accept_accepted}
use Rattle.gateway.proofs.opacity_accept.Goals as goal

pub returns-then-header-ne-HEADER_SIZE : goal.returns-then-header-ne-HEADER_SIZE
returns-then-header-ne-HEADER_SIZE c = Accept.size (λ s. omega (arith, c.then-header-ne-HEADER_SIZE.either, s.header-size, s.estimator-size, s.judgement-size))

pub returns-in-Err : goal.returns-in-Err
returns-in-Err c =
    let a = c.args in
    accept_refused a.table.now a.header.now a.estimator.now a.judgement.now c.read_header.result
    c.accept-reply.result.estimator c.accept-reply.result.answer (record { header-size = c.if-header-ne-HEADER_SIZE.false; estimator-size = c.if-estimator-ne-ESTIMATOR_SIZE.false; judgement-size = c.if-judgement-ne-JUDGEMENT_SIZE.false })
    c.read_header.ensures a.symbol c.read_estimator-before.result c.read_estimator-before.ensures c.accept-reply.ensures
    c.in-Err.refusal _ c.in-Err.is c.number.ensures

pub returns-in-Ok : goal.returns-in-Ok
returns-in-Ok c =
    let a = c.args in
    accept_accepted a.table.now a.header.now a.estimator.now a.judgement.now c.read_header.result
    c.accept-reply.result.estimator c.accept-reply.result.answer (record { header-size = c.if-header-ne-HEADER_SIZE.false; estimator-size = c.if-estimator-ne-ESTIMATOR_SIZE.false; judgement-size = c.if-judgement-ne-JUDGEMENT_SIZE.false })
    c.read_header.ensures a.symbol c.read_estimator-before.result c.read_estimator-before.ensures c.accept-reply.ensures
    c.in-Ok.told _ _ c.in-Ok.is c.write_estimator.ensures c.write_judgement.ensures
