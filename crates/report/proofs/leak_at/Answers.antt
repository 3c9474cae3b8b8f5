use Rattle.std.proofs.Common.{[], rules, arith}
use Rattle.stateset.proofs.Decides.{holds, fails}
use Rattle.report.specs.Text.{decimal}
use Rattle.report.specs.Writing.{no_room}
use Rattle.report.proofs.Laws.{lined}
use Rattle.report.proofs.Adds.{adds_then, adds_same, finished}
use Rattle.report.proofs.leak_at.Goals as goal

pub returns-then-not-has_room : goal.returns-then-not-has_room
returns-then-not-has_room c = no_room (fails _ c.if-not-has_room.true c.has_room.ensures)

pub returns : goal.returns
returns c =
    let done = finished (holds _ c.if-not-has_room.false c.has_room.ensures)
    (adds_same (lined (decimal c.args.place) []) (omega arith) (adds_then c.number.ensures c.byte.ensures)) in
    let same = done.0 in
    let written = done.1 in
    search rules
