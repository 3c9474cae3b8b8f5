use Rattle.std.proofs.Common.{subst}
use Rattle.monitor.specs.Opening.{Describing}
use Rattle.monitor.proofs.Openings.{described_well_formed}
use Rattle.leak_log.proofs.Beginnings.{described_refused, described_started}
use Rattle.leak_log.proofs.opening.open.Goals as goal

pub start-requires : goal.start-requires
start-requires c = described_well_formed (subst (Describing c.args.log.now) c.in-Ok.is c.description.ensures)

pub returns-in-Err : goal.returns-in-Err
returns-in-Err c =
    let none = c.no_log.ensures in
    rw none.0 (described_refused (subst (Describing c.args.log.now) c.in-Err.is c.description.ensures) none.1 (rw none.2 c.no_search.ensures))

pub returns-in-Ok : goal.returns-in-Ok
returns-in-Ok c = described_started (subst (Describing c.args.log.now) c.in-Ok.is c.description.ensures) c.start.ensures
