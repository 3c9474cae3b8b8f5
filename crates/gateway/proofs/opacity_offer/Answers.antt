use Rattle.std.proofs.Common.{arith}
use Rattle.gateway.specs.Interface.{Offer}
use Rattle.gateway.proofs.Entries.{offer_refused, offer_released}
use Rattle.gateway.proofs.opacity_offer.Goals as goal

pub returns-then-header-ne-HEADER_SIZE : goal.returns-then-header-ne-HEADER_SIZE
returns-then-header-ne-HEADER_SIZE c = Offer.size (λ s. omega (arith, c.then-header-ne-HEADER_SIZE.either, s.header-size, s.enforcer-size, s.release-size))

pub returns-then-enforcer-gt-STRONG_BYTE : goal.returns-then-enforcer-gt-STRONG_BYTE
returns-then-enforcer-gt-STRONG_BYTE c = Offer.size (λ s. omega (arith, c.if-enforcer-gt-STRONG_BYTE.true, s.notion_known))

pub returns-in-Err : goal.returns-in-Err
returns-in-Err c =
    let a = c.args in
    offer_refused a.table.now a.header.now a.symbol a.enforcer.now a.output.now a.release.now _
    c.read_header.result c.read_enforcer-before.result c.offer-given.result.enforcer c.offer-given.result.answer
    (record { header-size = c.if-header-ne-HEADER_SIZE.false; enforcer-size = c.if-enforcer-ne-ENFORCER_SIZE.false; notion_known = omega (arith, c.if-enforcer-gt-STRONG_BYTE.false); release-size = c.if-release-ne-RELEASE_SIZE.false })
    c.read_header.ensures c.read_enforcer-before.ensures c.offer-given.ensures
    c.in-Err.refusal _ c.in-Err.is c.number.ensures

pub returns-in-Ok : goal.returns-in-Ok
returns-in-Ok c =
    let a = c.args in
    offer_released a.table.now a.header.now a.symbol a.enforcer.now a.output.now a.release.now _
    c.read_header.result c.read_enforcer-before.result c.offer-given.result.enforcer c.offer-given.result.answer
    (record { header-size = c.if-header-ne-HEADER_SIZE.false; enforcer-size = c.if-enforcer-ne-ENFORCER_SIZE.false; notion_known = omega (arith, c.if-enforcer-gt-STRONG_BYTE.false); release-size = c.if-release-ne-RELEASE_SIZE.false })
    c.read_header.ensures c.read_enforcer-before.ensures c.offer-given.ensures
    c.in-Ok.told _ _ c.in-Ok.is c.write_enforcer.ensures c.write_release.ensures
