use Rattle.std.proofs.Common.{[], ◌∷◌, rules, arith}
use Rattle.stateset.proofs.Decides.{holds, fails}
use Rattle.report.specs.Text.{decimal}
use Rattle.report.specs.Witnesses.{word}
use Rattle.report.specs.Writing.{no_room}
use Rattle.report.proofs.Adds.{adds_then, adds_same, finished}
use Rattle.report.proofs.Pairing.{no_witness_lined}
use Rattle.report.proofs.witnesses.no_witness.Goals as goal

pub returns-then-not-has_room : goal.returns-then-not-has_room
returns-then-not-has_room c = no_room (fails _ c.if-not-has_room.true c.has_room.ensures)

pub returns : goal.returns
returns c =
    let a = c.args in
    let done = finished (holds _ c.if-not-has_room.false c.has_room.ensures)
    (adds_same (no_witness_lined (word a.notion) (decimal a.k) (110 ∷ 111 ∷ []) (97 ∷ 108 ∷ 105 ∷ 98 ∷ 105 ∷ [])) (omega arith)
    (adds_then c.step.ensures c.text.ensures)) in
    let same = done.0 in
    let written = done.1 in
    search rules
