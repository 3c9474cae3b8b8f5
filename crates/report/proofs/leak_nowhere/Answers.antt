use Rattle.std.proofs.Common.{refl, rules, arith}
use Rattle.stateset.proofs.Decides.{holds, fails}
use Rattle.report.specs.Writing.{no_room}
use Rattle.report.proofs.Adds.{adds_same, finished}
use Rattle.report.proofs.leak_nowhere.Goals as goal

pub returns-then-not-has_room : goal.returns-then-not-has_room
returns-then-not-has_room c = no_room (fails _ c.if-not-has_room.true c.has_room.ensures)

pub returns : goal.returns
returns c =
    let done = finished (holds _ c.if-not-has_room.false c.has_room.ensures)
    (adds_same refl (omega arith) c.text.ensures) in
    let same = done.0 in
    let written = done.1 in
    search rules
