use Rattle.std.proofs.Common.{ℕ, List, get_or, sym, subst, arith}
use lib.ListN.{length-take}
use Rattle.stateset.proofs.Bits.{taken}
use Rattle.relation.proofs.Turning.{Turning, turning_start, turning_turn, turning_next}
use Rattle.relation.proofs.transpose_few.Goals as goal

pub loop-p-init : goal.loop-p-init
loop-p-init c =
    let rows = c.args.rows.now in
    subst (λ (l : List ℕ). Turning rows l 0 (get_or rows 0 0)) (sym c.requires.1) (turning_start _)

pub loop-todo-preserved : goal.loop-todo-preserved
loop-todo-preserved c =
    let k = taken c.loop-todo.todo (omega arith) c.loop-todo.invariant.0 in
    (omega (arith, k.less), turning_turn _ _ _ _ _ _ (omega (arith, length-take c.args.few c.args.rows.now)) k c.loop-todo.invariant.1)

pub loop-p-preserved : goal.loop-p-preserved
loop-p-preserved c = turning_next _ _ _ _ (omega arith) c.loop-todo.invariant.1
