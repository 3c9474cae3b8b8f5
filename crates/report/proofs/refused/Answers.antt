use Rattle.std.proofs.Common.{ℕ, [], ◌∷◌, ◌++◌, ap, ◌∙◌, rules, arith}
use Rattle.stateset.proofs.Decides.{holds, fails}
use Rattle.refusal.specs.Refusals.{number_of}
use Rattle.report.specs.Text.{decimal}
use Rattle.report.specs.Writing.{no_room}
use Rattle.report.proofs.Laws.{lined}
use Rattle.report.proofs.Adds.{adds_then, adds_same, finished}
use Rattle.report.proofs.refused.Goals as goal

pub returns-then-not-has_room : goal.returns-then-not-has_room
returns-then-not-has_room c = no_room (fails _ c.if-not-has_room.true c.has_room.ensures)

pub returns : goal.returns
returns c =
    let a = c.args in
    let done = finished (holds _ c.if-not-has_room.false c.has_room.ensures)
    (adds_same (ap (λ (k : ℕ). (33 ∷ []) ++ ((32 ∷ decimal k) ++ ((32 ∷ decimal (number_of a.refusal)) ++ (10 ∷ [])))) c.from.ensures
    ∙ lined (33 ∷ []) (decimal a.byte ∷ decimal (number_of a.refusal) ∷ [])) (omega arith)
    (adds_then c.byte.ensures (adds_then c.field.ensures (adds_then c.refusal_field.ensures c.byte-2.ensures)))) in
    let same = done.0 in
    let written = done.1 in
    search rules
