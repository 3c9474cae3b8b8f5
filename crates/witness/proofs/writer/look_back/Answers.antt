use Rattle.std.proofs.Common.{replicate, refl, ◌∙◌, length-set, arith}
use lib.ListN.{set}
use Rattle.witness.proofs.Following.{looked_start, looked_more, allowed_known}
use Rattle.witness.proofs.writer.look_back.Goals as goal

pub loop-i-init : goal.loop-i-init
loop-i-init c = (refl, λ p P. looked_start p _ _ (set (replicate 16 0) 0 c.args.ways.allowed) refl)

pub events_with-events-requires : goal.events_with-events-requires
events_with-events-requires c = c.requires.1.1.prepared.sets_are.size

pub backward_reach-requires : goal.backward_reach-requires
backward_reach-requires c =
    let x = c.requires.1 in
    let P = x.1.prepared in
    (x.1.words, λ e i. ((c.events_with-events.ensures x.0 P.symbols_small P.sets_are).sound e i).0)

pub loop-i-preserved : goal.loop-i-preserved
loop-i-preserved c =
    let l = c.loop-i in (
      length-set l.then _ _ ∙ l.invariant.0,
      λ p P.
          let Q = P.prepared in
          looked_more p _ _ l.then l.i _ (omega (arith, l.invariant.0)) (l.invariant.1 p P)
          (λ T. c.backward_reach.ensures p _ _ _ Q.silently.table_is (c.events_with-events.ensures p Q.symbols_small Q.sets_are) Q.silently.entered
          (allowed_known _ P.small) T),
    )
