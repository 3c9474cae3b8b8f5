use Rattle.std.proofs.Common.{arith, sym, subst}
use Rattle.stateset.proofs.Bits.{taken}
use Rattle.relation.proofs.Joining.{Joined, Adds, join_start, join_more, join_end, joined_whole}
use Rattle.relation.proofs.image.Goals as goal

pub loop-todo-init : goal.loop-todo-init
loop-todo-init g c =
    let s = g.S.Sets in
    let a = c.args in
    let all = c.any-todo.result in (
      omega arith,
      λ q i. i,
      λ i l. subst (Joined (Adds a.rows.now (s.at a.set i)) all all) (sym (s.of_each _ c.none-r.ensures i l)) (join_start _ _),
    )

pub pick-r-requires : goal.pick-r-requires
pick-r-requires g c =
    let l = c.loop-todo in
    let k = taken l.todo (omega arith) l.invariant.0 in
    (k.small, c.any-todo.ensures.sound _ (l.invariant.1 _ k.inside))

pub loop-todo-preserved : goal.loop-todo-preserved
loop-todo-preserved g c =
    let s = g.S.Sets in
    let l = c.loop-todo in
    let k = taken l.todo (omega arith) l.invariant.0 in (
      omega (arith, k.less),
      λ q i. l.invariant.1 q (k.kept q i),
      λ i h. join_more _ _ _ _ _ _ _ k (s.of_each _ c.pick-r.ensures i h) (l.invariant.2 i h),
    )

pub returns : goal.returns
returns g c =
    let s = g.S.Sets in
    let any = c.any-todo in
    s.each_of _ (λ i h. joined_whole c.args.rows.now _ any.result _ (λ q m. any.ensures.whole q (i, h, m))
    (join_end _ _ _ _ c.loop-todo-test.false (c.loop-todo.invariant.2 i h)))
