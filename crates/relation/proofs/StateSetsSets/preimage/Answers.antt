use Rattle.std.proofs.Common.{ℕ, ◌-◌, arith, sym, subst}
use Rattle.relation.specs.Relation.{set_at}
use Rattle.relation.proofs.Falling.{From, Leading, from_start, row_turn, from_end}
use Rattle.relation.proofs.FourSets.{four}
use Rattle.relation.proofs.StateSetsSets.preimage.Goals as goal

pub loop-q-init : goal.loop-q-init
loop-q-init c = λ i l. let s = c.args in
    subst (From (Leading s.rows.now s.steps (set_at s.self i)) s.steps) (sym (c.none-r.ensures i l)) (from_start _ _ (λ x m. m.0))

pub loop-q-preserved : goal.loop-q-preserved
loop-q-preserved c =
    let l = c.loop-q in
    let a = c.args in
    let turn : (set r up : ℕ) → _ = λ set r up. row_turn a.rows.now a.steps set (l.q - 1) l.q r up (omega arith) (omega arith) (omega arith) in
    four (λ i. From (Leading a.rows.now a.steps (set_at a.self i)) (l.q - 1) (set_at _ i))
    (turn _ _ _ (l.invariant 0 (omega arith)) c.shift.ensures)
    (turn _ _ _ (l.invariant 1 (omega arith)) c.shift-in-loop-q.ensures)
    (turn _ _ _ (l.invariant 2 (omega arith)) c.shift-in-loop-q-2.ensures)
    (turn _ _ _ (l.invariant 3 (omega arith)) c.shift-in-loop-q-3.ensures)

pub returns : goal.returns
returns c = λ i h. from_end _ c.loop-q.q (set_at c.loop-q.r i) (omega arith) (c.loop-q.invariant i h)
