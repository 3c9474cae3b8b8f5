use Rattle.std.proofs.Common.{List, ℕ, subst, arith}
use Rattle.stateset.specs.Set.{Is}
use Rattle.stateset.proofs.Bits.{taken}
use Rattle.relation.specs.Relation.{Row, Image}
use Rattle.relation.proofs.Joining.{join_start, join_turn, join_end}
use Rattle.automaton.proofs.Joining.{image_joined}
use Rattle.automaton.proofs.image_by.Goals as goal

pub loop-left-init : goal.loop-left-init
loop-left-init c = (omega arith, join_start _ _)

pub event_rows-requires : goal.event_rows-requires
event_rows-requires c =
    let k = taken c.loop-left.left (omega arith) c.loop-left.invariant.0 in
    (c.requires.0, c.requires.1 _ (c.loop-left.invariant.1.sub _ k.inside))

pub loop-left-preserved : goal.loop-left-preserved
loop-left-preserved c =
    let l = c.loop-left in
    let k = taken l.left (omega arith) l.invariant.0 in (
      omega (arith, k.less),
      join_turn _ _ _ _ _ _ _ k (subst (λ (w : List ℕ). Is c.image-r.result (Image (Row w) c.args.set)) c.event_rows.ensures c.image-r.ensures)
          l.invariant.1,
    )

pub returns : goal.returns
returns c =
    image_joined _ _ _ _ c.requires.0 (λ k. omega (arith, c.type_inv.table k)) c.requires.1
    (join_end _ _ _ _ c.loop-left-test.false c.loop-left.invariant.1)
