use Rattle.std.proofs.Common.{arith}
use Rattle.gateway.specs.Interface.{Fresh}
use Rattle.gateway.proofs.Entries.{fresh_refused, fresh_accepted}
use Rattle.gateway.proofs.opacity_fresh.Goals as goal

pub returns-then-header-ne-HEADER_SIZE : goal.returns-then-header-ne-HEADER_SIZE
returns-then-header-ne-HEADER_SIZE c = Fresh.size (λ s. omega (arith, c.then-header-ne-HEADER_SIZE.either, s.verifier.header-size, s.verifier.estimator-size, s.verifier.judgement-size, s.further-size))

pub returns-in-Err : goal.returns-in-Err
returns-in-Err c =
    let a = c.args in
    fresh_refused a.table.now a.header.now a.estimator.now a.judgement.now c.read_header.result
    c.fresh-reply.result.estimator c.fresh-reply.result.answer (record { header-size = c.if-header-ne-HEADER_SIZE.false; estimator-size = c.if-estimator-ne-ESTIMATOR_SIZE.false; judgement-size = c.if-judgement-ne-JUDGEMENT_SIZE.false })
    c.read_header.ensures a.further.now c.read_further.result (record { verifier = record { header-size = c.if-header-ne-HEADER_SIZE.false; estimator-size = c.if-estimator-ne-ESTIMATOR_SIZE.false; judgement-size = c.if-judgement-ne-JUDGEMENT_SIZE.false }; further-size = c.if-further-ne-FURTHER_SIZE.false })
    c.read_further.ensures c.fresh-reply.ensures
    c.in-Err.refusal _ c.in-Err.is c.number.ensures

pub returns-in-Ok : goal.returns-in-Ok
returns-in-Ok c =
    let a = c.args in
    fresh_accepted a.table.now a.header.now a.estimator.now a.judgement.now c.read_header.result
    c.fresh-reply.result.estimator c.fresh-reply.result.answer (record { header-size = c.if-header-ne-HEADER_SIZE.false; estimator-size = c.if-estimator-ne-ESTIMATOR_SIZE.false; judgement-size = c.if-judgement-ne-JUDGEMENT_SIZE.false })
    c.read_header.ensures a.further.now c.read_further.result (record { verifier = record { header-size = c.if-header-ne-HEADER_SIZE.false; estimator-size = c.if-estimator-ne-ESTIMATOR_SIZE.false; judgement-size = c.if-judgement-ne-JUDGEMENT_SIZE.false }; further-size = c.if-further-ne-FURTHER_SIZE.false })
    c.read_further.ensures c.fresh-reply.ensures
    c.in-Ok.told _ _ c.in-Ok.is c.write_estimator.ensures c.write_judgement.ensures
