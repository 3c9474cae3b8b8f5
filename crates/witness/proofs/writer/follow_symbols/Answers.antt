use Rattle.std.proofs.Common.{arith}
use Rattle.witness.proofs.Going.{go_ahead, go_room, go_turn}
use Rattle.witness.proofs.writer.follow_symbols.Goals as goal

-- the call, of whose automaton the invariant is used
pub observable_walk-now-requires : goal.observable_walk-now-requires
observable_walk-now-requires c =
    let x = c.requires.1 in
    let g = c.loop-i.invariant x.0 x.1 x.2 in
    ((x.0, x.1, go_ahead _ _ _ _ _ _ _ _ _ _ _ _ g x.2 (omega arith)), go_room _ _ _ _ _ _ _ _ _ _ _ _ g (omega arith) c.requires.3)

pub loop-i-preserved : goal.loop-i-preserved
loop-i-preserved c = λ p P L.
    let g = c.loop-i.invariant p P L in
    let w = c.observable_walk-now in
    go_turn _ _ _ _ _ _ _ _ _ _ _ _ g _ w.result (omega arith) (w.ensures.0 p P (go_ahead _ _ _ _ _ _ _ _ _ _ _ _ g L (omega arith)).among)
    w.ensures.1
