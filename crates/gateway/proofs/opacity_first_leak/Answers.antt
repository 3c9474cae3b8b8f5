use Rattle.std.proofs.Common.{arith}
use Rattle.gateway.specs.Interface.{FirstLeakCall}
use Rattle.gateway.proofs.Entries.{leak_refused, leak_found}
use Rattle.gateway.proofs.opacity_first_leak.Goals as goal

pub returns-then-header-ne-HEADER_SIZE : goal.returns-then-header-ne-HEADER_SIZE
returns-then-header-ne-HEADER_SIZE c = FirstLeakCall.size (λ s. omega (arith, c.then-header-ne-HEADER_SIZE.either, s.header-size, s.notion_known, s.further-size, s.place_size))

pub returns-in-Err : goal.returns-in-Err
returns-in-Err c =
    let a = c.args in
    leak_refused a.table.now a.header.now a.notion a.further.now a.events.now a.place.now
    c.read_header.result c.read_further.result c.notion_of.result c.first_leak-answer.result
    (record { header-size = c.if-header-ne-HEADER_SIZE.false; notion_known = omega (arith, c.if-notion-gt-STRONG_BYTE.false); further-size = c.if-further-ne-FURTHER_SIZE.false; place_size = c.if-place-ne-FIRST_LEAK_SIZE.false })
    c.read_header.ensures c.read_further.ensures c.notion_of.ensures c.first_leak-answer.ensures
    c.in-Err.refusal _ c.in-Err.is c.number.ensures

pub returns-in-Ok : goal.returns-in-Ok
returns-in-Ok c =
    let a = c.args in
    leak_found a.table.now a.header.now a.notion a.further.now a.events.now a.place.now
    c.read_header.result c.read_further.result c.notion_of.result c.first_leak-answer.result
    (record { header-size = c.if-header-ne-HEADER_SIZE.false; notion_known = omega (arith, c.if-notion-gt-STRONG_BYTE.false); further-size = c.if-further-ne-FURTHER_SIZE.false; place_size = c.if-place-ne-FIRST_LEAK_SIZE.false })
    c.read_header.ensures c.read_further.ensures c.notion_of.ensures c.first_leak-answer.ensures
    c.in-Ok.found c.unwrap_or.result _ (omega (arith, c.well_formed)) c.in-Ok.is c.unwrap_or.ensures c.write_number.ensures
