use Rattle.std.proofs.Common.{[], ◌∷◌, rules, arith}
use Rattle.stateset.proofs.Decides.{holds, fails}
use Rattle.refusal.specs.Refusals.{number_of}
use Rattle.report.specs.Text.{decimal}
use Rattle.report.specs.Writing.{no_room}
use Rattle.report.proofs.Laws.{lined}
use Rattle.report.proofs.Adds.{adds_then, adds_same, finished}
use Rattle.report.proofs.refused_log.Goals as goal

pub returns-then-not-has_room : goal.returns-then-not-has_room
returns-then-not-has_room c = no_room (fails _ c.if-not-has_room.true c.has_room.ensures)

pub returns : goal.returns
returns c =
    let done = finished (holds _ c.if-not-has_room.false c.has_room.ensures)
    (adds_same (lined (114 ∷ 101 ∷ 102 ∷ 117 ∷ 115 ∷ 101 ∷ 100 ∷ []) (decimal (number_of c.args.refusal) ∷ [])) (omega arith)
    (adds_then c.text.ensures (adds_then c.refusal_field.ensures c.byte.ensures))) in
    let same = done.0 in
    let written = done.1 in
    search rules
