use Rattle.std.proofs.Common.{ℕ, [], ◌∷◌, ◌++◌, ap, ◌∙◌, rules, arith}
use Rattle.stateset.proofs.Decides.{holds, fails}
use Rattle.report.specs.Text.{decimal, steps, symbols}
use Rattle.report.specs.Writing.{no_room}
use Rattle.report.proofs.Laws.{judgement_lined}
use Rattle.report.proofs.Adds.{adds_then, adds_same, finished}
use Rattle.report.proofs.accepted.Goals as goal

pub returns-then-not-has_room : goal.returns-then-not-has_room
returns-then-not-has_room c = no_room (fails _ c.if-not-has_room.true c.has_room.ensures)

pub returns : goal.returns
returns c =
    let a = c.args in
    let own = a.judgement.verdicts.own in
    let done = finished (holds _ c.if-not-has_room.false c.has_room.ensures)
    (adds_same (ap (λ (k : ℕ). decimal a.place ++ ((32 ∷ decimal k) ++ (((32 ∷ steps own.weak) ++ ((32 ∷ steps own.strong) ++ (32 ∷ decimal a.judgement.size)))
    ++ ((32 ∷ symbols a.released.now) ++ (10 ∷ []))))) c.from.ensures
    ∙ judgement_lined (decimal a.place) (decimal a.symbol) (steps own.weak) (steps own.strong) (decimal a.judgement.size) (symbols a.released.now)) (omega arith)
    (adds_then c.number.ensures (adds_then c.field.ensures (adds_then c.judgement_fields.ensures (adds_then c.symbols_field.ensures c.byte.ensures))))) in
    let same = done.0 in
    let written = done.1 in
    search rules
