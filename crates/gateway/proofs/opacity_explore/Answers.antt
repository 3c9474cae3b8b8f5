use Rattle.std.proofs.Common.{arith}
use Rattle.gateway.specs.Interface.{Explore}
use Rattle.gateway.proofs.Entries.{explore_refused, explore_explored}
use Rattle.gateway.proofs.opacity_explore.Goals as goal

pub returns-then-header-ne-HEADER_SIZE : goal.returns-then-header-ne-HEADER_SIZE
returns-then-header-ne-HEADER_SIZE c = Explore.size (λ s. omega (arith, c.then-header-ne-HEADER_SIZE.either, s.header-size, s.further-size, s.exploration-size))

pub returns-in-Err : goal.returns-in-Err
returns-in-Err c =
    let a = c.args in
    explore_refused a.table.now a.header.now a.further.now a.budget a.exploration.now c.read_header.result c.read_further.result c.explore-answer.result
    (record { header-size = c.if-header-ne-HEADER_SIZE.false; further-size = c.if-further-ne-FURTHER_SIZE.false; exploration-size = c.if-exploration-ne-EXPLORATION_SIZE.false })
    c.read_header.ensures c.read_further.ensures c.explore-answer.ensures
    c.in-Err.reason _ c.in-Err.is c.number.ensures

pub returns-in-Ok : goal.returns-in-Ok
returns-in-Ok c =
    let a = c.args in
    explore_explored a.table.now a.header.now a.further.now a.budget a.exploration.now c.read_header.result c.read_further.result c.explore-answer.result
    (record { header-size = c.if-header-ne-HEADER_SIZE.false; further-size = c.if-further-ne-FURTHER_SIZE.false; exploration-size = c.if-exploration-ne-EXPLORATION_SIZE.false })
    c.read_header.ensures c.read_further.ensures c.explore-answer.ensures
    c.in-Ok.found _ c.in-Ok.is c.write_exploration.ensures
