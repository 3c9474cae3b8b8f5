use Rattle.std.proofs.Common.{List, ℕ, subst, sym, arith}
use Rattle.stateset.specs.Set.{Is}
use Rattle.stateset.proofs.Bits.{taken}
use Rattle.relation.proofs.Falling.{Leading}
use Rattle.relation.proofs.Joining.{Joined, join_start, join_turn, join_end}
use Rattle.automaton.proofs.Joining.{words_of, preimage_joined}
use Rattle.automaton.proofs.preimage_by.Goals as goal

pub loop-todo-init : goal.loop-todo-init
loop-todo-init g c =
    let s = g.S.Sets in
    let a = c.args in (
      omega arith,
      λ q i. i,
      λ i l. subst (Joined (λ e. Leading (words_of a.table.now e) (s.far a.steps) (s.at a.set i)) a.events a.events)
          (sym (s.of_each _ c.none-r.ensures i l)) (join_start _ _),
    )

pub event_rows-requires : goal.event_rows-requires
event_rows-requires g c =
    let l = c.loop-todo in
    let k = taken l.todo (omega arith) l.invariant.0 in
    (c.requires.0, c.requires.1 _ (l.invariant.1 _ k.inside))

pub preimage-some-requires : goal.preimage-some-requires
preimage-some-requires g c = c.requires.2

pub loop-todo-preserved : goal.loop-todo-preserved
loop-todo-preserved g c =
    let s = g.S.Sets in
    let l = c.loop-todo in
    let a = c.args in
    let k = taken l.todo (omega arith) l.invariant.0 in
    let some = c.preimage-some in (
      omega (arith, k.less),
      λ q i. l.invariant.1 q (k.kept q i),
      λ i h. rw (s.of_each _ c.join-r.ensures i h) (join_turn _ _ _ _ _ _ _ k
          (subst (λ (w : List ℕ). Is (s.at some.result i) (Leading w (s.far a.steps) (s.at a.set i))) c.event_rows.ensures
          (s.of_each _ some.ensures i h))
          (l.invariant.2 i h)),
    )

pub returns : goal.returns
returns g c =
    let s = g.S.Sets in
    s.each_of _ (λ i h. preimage_joined _ _ _ _ c.requires.0 (λ k. omega (arith, c.type_inv.table k)) c.requires.1 _
    (join_end _ _ _ _ c.loop-todo-test.false (c.loop-todo.invariant.2 i h)))
