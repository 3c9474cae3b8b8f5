use Rattle.std.proofs.Common.{arith}
use Rattle.gateway.specs.Interface.{Start}
use Rattle.gateway.proofs.Entries.{start_refused, start_started}
use Rattle.gateway.proofs.opacity_start.Goals as goal

pub returns-then-header-ne-HEADER_SIZE : goal.returns-then-header-ne-HEADER_SIZE
returns-then-header-ne-HEADER_SIZE c = Start.size (λ s. omega (arith, c.then-header-ne-HEADER_SIZE.either, s.header-size, s.notion_known, s.further-size, s.enforcer-size))

pub returns-in-Err : goal.returns-in-Err
returns-in-Err c =
    let a = c.args in
    start_refused a.table.now a.header.now a.notion a.further.now a.enforcer.now
    c.read_header.result c.notion_of.result c.read_further.result c.start-start.result.enforcer c.start-start.result.answer
    (record { header-size = c.if-header-ne-HEADER_SIZE.false; notion_known = omega (arith, c.if-notion-gt-STRONG_BYTE.false); further-size = c.if-further-ne-FURTHER_SIZE.false; enforcer-size = c.if-enforcer-ne-ENFORCER_SIZE.false })
    c.read_header.ensures c.notion_of.ensures c.read_further.ensures c.start-start.ensures
    c.in-Err.refusal _ c.in-Err.is c.number.ensures

pub returns-in-Ok : goal.returns-in-Ok
returns-in-Ok c =
    let a = c.args in
    start_started a.table.now a.header.now a.notion a.further.now a.enforcer.now
    c.read_header.result c.notion_of.result c.read_further.result c.start-start.result.enforcer c.start-start.result.answer
    (record { header-size = c.if-header-ne-HEADER_SIZE.false; notion_known = omega (arith, c.if-notion-gt-STRONG_BYTE.false); further-size = c.if-further-ne-FURTHER_SIZE.false; enforcer-size = c.if-enforcer-ne-ENFORCER_SIZE.false })
    c.read_header.ensures c.notion_of.ensures c.read_further.ensures c.start-start.ensures
    _ c.in-Ok.is c.write_enforcer.ensures
