use Rattle.std.proofs.Common.{rules, arith}
use Rattle.stateset.proofs.Decides.{holds, fails}
use Rattle.report.specs.Text.{decimal}
use Rattle.report.specs.Witnesses.{word, pair_fields}
use Rattle.report.specs.Writing.{no_room}
use Rattle.report.proofs.Adds.{adds_then, adds_same, finished}
use Rattle.report.proofs.Pairing.{witness_lined}
use Rattle.report.proofs.witnesses.witness.Goals as goal

pub returns-then-not-has_room : goal.returns-then-not-has_room
returns-then-not-has_room c = no_room (fails _ c.if-not-has_room.true c.has_room.ensures)

pub returns : goal.returns
returns c =
    let a = c.args in
    let done = finished (holds _ c.if-not-has_room.false c.has_room.ensures)
    (adds_same (witness_lined (word a.notion) (decimal a.k) c.from.ensures (pair_fields a.pairs.now)) (omega arith)
    (adds_then c.step.ensures (adds_then c.field.ensures (adds_then c.pairs.ensures c.byte.ensures)))) in
    let same = done.0 in
    let written = done.1 in
    search rules
