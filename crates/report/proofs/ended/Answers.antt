use Rattle.std.proofs.Common.{refl, rules, arith}
use Rattle.stateset.proofs.Decides.{holds, fails}
use Rattle.report.specs.Writing.{no_room}
use Rattle.report.proofs.Adds.{adds_same, finished}
use Rattle.report.proofs.ended.Goals as goal

pub returns-then-not-has_room_at_end : goal.returns-then-not-has_room_at_end
returns-then-not-has_room_at_end c = no_room (fails _ c.if-not-has_room_at_end.true c.has_room_at_end.ensures)

pub returns : goal.returns
returns c =
    let done = finished (holds _ c.if-not-has_room_at_end.false c.has_room_at_end.ensures)
    (adds_same refl (omega arith) c.last_line.ensures) in
    let same = done.0 in
    let written = done.1 in
    search rules
