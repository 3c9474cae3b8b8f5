use Rattle.std.proofs.Common.{[], rules, arith}
use Rattle.witness.proofs.Following.{silent_onward}
use Rattle.witness.proofs.Walking.{in_layer, walk_begin, walk_down, walk_room, walk_turn}
use Rattle.witness.proofs.walks.silent_walk.Goals as goal

pub layers_to-requires : goal.layers_to-requires
layers_to-requires c = search rules

pub layer_of-first-requires : goal.layer_of-first-requires
layer_of-first-requires c =
    let s = c.requires.0 in
    let x = c.layers_to.ensures s.0 s.1.prepared.silently.entered in
    (x.size, in_layer _ _ _ _ _ _ x s.2)

pub loop-d-init : goal.loop-d-init
loop-d-init c = λ p P.
    walk_begin p _ _ _ _ _ _ _ _ (c.layers_to.ensures p P.prepared.silently.entered) c.layer_of-first.ensures.0 c.layer_of-first.ensures.1

-- the call, of whose automaton the invariant is used
pub put_step-now-requires : goal.put_step-now-requires
put_step-now-requires c =
    let x = c.requires.0 in
    let w = c.loop-d.invariant x.0 x.1 in
    let s = x.1.prepared.silently in (
      x.1.words,
      (λ e i. (s.silent_are.sound e i).0),
      silent_onward x.0 _ _ _ s _ _ (walk_down _ _ _ _ _ _ _ _ _ _ _ w (omega arith)),
      walk_room _ _ _ _ _ _ _ _ _ _ _ w (omega arith) c.requires.1,
    )

pub loop-d-preserved : goal.loop-d-preserved
loop-d-preserved c = λ p P.
    let q = c.put_step-now in
    let s = P.prepared.silently in
    walk_turn _ _ _ _ _ _ _ _ _ _ _ (c.loop-d.invariant p P) _ q.result (omega arith)
    (λ allowed sub. q.ensures.0 p allowed [] s.table_is (λ e i. (s.silent_are.sound e i).1) sub) q.ensures.1
