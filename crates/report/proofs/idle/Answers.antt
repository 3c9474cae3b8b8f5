use Rattle.std.proofs.Common.{[], ◌∷◌, rules, arith}
use Rattle.stateset.proofs.Decides.{holds, fails}
use Rattle.report.specs.Text.{decimal, steps}
use Rattle.report.specs.Writing.{no_room}
use Rattle.report.proofs.Laws.{judgement_lined}
use Rattle.report.proofs.Adds.{adds_then, adds_same, finished}
use Rattle.report.proofs.idle.Goals as goal

pub returns-then-not-has_room_at_end : goal.returns-then-not-has_room_at_end
returns-then-not-has_room_at_end c = no_room (fails _ c.if-not-has_room_at_end.true c.has_room_at_end.ensures)

pub returns : goal.returns
returns c =
    let a = c.args.opening in
    let done = finished (holds _ c.if-not-has_room_at_end.false c.has_room_at_end.ensures)
    (adds_then {m = 64} (adds_same (judgement_lined (decimal 0) (45 ∷ []) (steps a.verdicts.own.weak) (steps a.verdicts.own.strong) (decimal a.size) (45 ∷ []))
    (omega arith) (adds_then c.number.ensures (adds_then c.dash.ensures (adds_then c.judgement_fields.ensures (adds_then c.dash-2.ensures c.byte.ensures)))))
    c.last_line.ensures) in
    let same = done.0 in
    let written = done.1 in
    search rules
