use Rattle.std.proofs.Common.{refl, inl, inr, arith}
use Rattle.stateset.proofs.Decides.{holds, fails}
use Rattle.monitor.specs.Advancing.{Advancing}
use Rattle.monitor.proofs.Following.{along_start, along_next, along_end}
use Rattle.monitor.proofs.Monitor.advance.Goals as goal

pub returns-then-not-well_formed : goal.returns-then-not-well_formed
returns-then-not-well_formed c = Advancing.malformed (fails c.well_formed-2.result c.if-not-well_formed.true c.well_formed-2.ensures)

pub loop-byte-init : goal.loop-byte-init
loop-byte-init c =
    let a = c.args in
    record {
      taken = refl;
      along = along_start a.table.now a.header a.self a.events.now a.out.now a.at
          (holds c.well_formed-2.result c.if-not-well_formed.false c.well_formed-2.ensures) (omega arith);
    }

pub loop-byte-preserved : goal.loop-byte-preserved
loop-byte-preserved c =
    let a = c.args in
    let l = c.loop-byte in
    record {
      taken = omega arith;
      along = along_next a.table.now a.header a.self a.events.now a.out.now a.at l.now l.next l.byte-index l.out
          c.step-entry.result.monitor c.step-entry.result.next _ l.invariant.along c.loop-byte-test.true
          (holds c.ready.result c.if-not-ready.false c.ready.ensures) c.step-entry.ensures;
    }

-- all event bytes are taken
pub returns-after-loop-byte : goal.returns-after-loop-byte
returns-after-loop-byte c =
    let a = c.args in
    let l = c.loop-byte in
    rw l.invariant.taken
    (along_end a.table.now a.header a.self a.events.now a.out.now a.at l.now l.next l.byte-index l.out
    (holds c.well_formed-2.result c.if-not-well_formed.false c.well_formed-2.ensures) l.invariant.along (inl (omega arith)))

-- or the monitor is not ready for one more
pub returns-then-not-ready : goal.returns-then-not-ready
returns-then-not-ready c =
    let a = c.args in
    let l = c.loop-byte in
    rw l.invariant.taken
    (along_end a.table.now a.header a.self a.events.now a.out.now a.at l.now l.next l.byte-index l.out
    (holds c.well_formed-2.result c.if-not-well_formed.false c.well_formed-2.ensures) l.invariant.along
    (inr (fails c.ready.result c.if-not-ready.true c.ready.ensures)))
