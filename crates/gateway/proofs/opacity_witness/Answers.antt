use Rattle.std.proofs.Common.{arith}
use Rattle.gateway.specs.Interface.{Witnessing}
use Rattle.gateway.proofs.WitnessEntries.{witness_refused, witness_written}
use Rattle.gateway.proofs.opacity_witness.Goals as goal

pub returns-then-header-ne-HEADER_SIZE : goal.returns-then-header-ne-HEADER_SIZE
returns-then-header-ne-HEADER_SIZE c = Witnessing.size (λ s. omega (arith, c.then-header-ne-HEADER_SIZE.either, s.header-size, s.notion_known, s.estimator-size, s.run-size))

pub returns-in-Err : goal.returns-in-Err
returns-in-Err c =
    let a = c.args in
    witness_refused a.table.now a.header.now a.notion a.secret a.k a.estimator.now a.output.now a.run.now _
    c.read_header.result c.read_estimator.result c.notion_of.result c.witness-answer.result
    (record { header-size = c.if-header-ne-HEADER_SIZE.false; notion_known = omega (arith, c.if-notion-gt-STRONG_BYTE.false); estimator-size = c.if-estimator-ne-ESTIMATOR_SIZE.false; run-size = c.if-run-ne-RUN_SIZE.false })
    c.read_header.ensures c.read_estimator.ensures c.notion_of.ensures c.witness-answer.ensures
    c.in-Err.refusal _ c.in-Err.is c.number.ensures

pub returns-in-Ok : goal.returns-in-Ok
returns-in-Ok c =
    let a = c.args in
    witness_written a.table.now a.header.now a.notion a.secret a.k a.estimator.now a.output.now a.run.now _
    c.read_header.result c.read_estimator.result c.notion_of.result c.witness-answer.result
    (record { header-size = c.if-header-ne-HEADER_SIZE.false; notion_known = omega (arith, c.if-notion-gt-STRONG_BYTE.false); estimator-size = c.if-estimator-ne-ESTIMATOR_SIZE.false; run-size = c.if-run-ne-RUN_SIZE.false })
    c.read_header.ensures c.read_estimator.ensures c.notion_of.ensures c.witness-answer.ensures
    c.in-Ok.written _ c.in-Ok.is c.write_run.ensures
