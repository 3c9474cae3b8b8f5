-- What was decoded is an automaton, and what starting a log promises then.
use Rattle.std.proofs.Common.{subst}
use Rattle.monitor.specs.Opening.{Describing}
use Rattle.monitor.proofs.Openings.{described_started, described_refused, described_well_formed}
use Rattle.monitor.proofs.open.Goals as goal

pub start-requires : goal.start-requires
start-requires c = described_well_formed (subst (Describing c.args.log.now) c.in-Ok.is c.description.ensures)

pub returns-in-Err : goal.returns-in-Err
returns-in-Err c =
    rw c.refused.ensures.0 (described_refused (subst (Describing c.args.log.now) c.in-Err.is c.description.ensures) c.refused.ensures.1)

pub returns-in-Ok : goal.returns-in-Ok
returns-in-Ok c = described_started (subst (Describing c.args.log.now) c.in-Ok.is c.description.ensures) c.start.ensures
