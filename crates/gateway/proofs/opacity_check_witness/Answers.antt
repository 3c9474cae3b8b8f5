use Rattle.std.proofs.Common.{arith}
use Rattle.gateway.specs.Interface.{CheckingWitness}
use Rattle.gateway.proofs.WitnessEntries.{check_refused, check_judged}
use Rattle.gateway.proofs.opacity_check_witness.Goals as goal

pub returns-then-header-ne-HEADER_SIZE : goal.returns-then-header-ne-HEADER_SIZE
returns-then-header-ne-HEADER_SIZE c = CheckingWitness.size (λ s. omega (arith, c.then-header-ne-HEADER_SIZE.either, s.header-size, s.notion_known, s.estimator-size, s.valid-size))

pub returns-in-Err : goal.returns-in-Err
returns-in-Err c =
    let a = c.args in
    check_refused a.table.now a.header.now a.notion a.secret a.k a.start a.estimator.now a.pairs.now a.valid.now
    c.read_header.result c.read_estimator.result c.notion_of.result c.check_witness-checked.result
    (record { header-size = c.if-header-ne-HEADER_SIZE.false; notion_known = omega (arith, c.if-notion-gt-STRONG_BYTE.false); estimator-size = c.if-estimator-ne-ESTIMATOR_SIZE.false; valid-size = c.if-valid-ne-VALID_SIZE.false })
    c.read_header.ensures c.read_estimator.ensures c.notion_of.ensures c.check_witness-checked.ensures
    c.in-Err.refusal _ c.in-Err.is c.number.ensures

pub returns-in-Ok : goal.returns-in-Ok
returns-in-Ok c =
    let a = c.args in
    check_judged a.table.now a.header.now a.notion a.secret a.k a.start a.estimator.now a.pairs.now a.valid.now
    c.read_header.result c.read_estimator.result c.notion_of.result c.check_witness-checked.result
    (record { header-size = c.if-header-ne-HEADER_SIZE.false; notion_known = omega (arith, c.if-notion-gt-STRONG_BYTE.false); estimator-size = c.if-estimator-ne-ESTIMATOR_SIZE.false; valid-size = c.if-valid-ne-VALID_SIZE.false })
    c.read_header.ensures c.read_estimator.ensures c.notion_of.ensures c.check_witness-checked.ensures
    c.in-Ok.holds _ c.in-Ok.is c.write_valid.ensures
