-- Unobservable steps to where the events lead into the set, and one step by one of them.
use Rattle.std.proofs.Common.{[], ◌∷◌, arith}
use Rattle.witness.proofs.Following.{ahead_leads, into_onward}
use Rattle.witness.proofs.Moving.{moved_join, moved_size, moved_place}
use Rattle.witness.proofs.walks.observable_walk.Goals as goal

pub events_with-events-requires : goal.events_with-events-requires
events_with-events-requires c = c.requires.0.1.prepared.sets_are.size

pub preimage_by-into-requires : goal.preimage_by-into-requires
preimage_by-into-requires c =
    let x = c.requires.0 in
    let P = x.1.prepared in
    let S = c.events_with-events.ensures x.0 P.symbols_small P.sets_are in
    (x.1.words, (λ e i. (S.sound e i).0), omega arith)

pub silent_walk-mid-requires : goal.silent_walk-mid-requires
silent_walk-mid-requires c =
    let x = c.requires.0 in
    let P = x.1.prepared in
    let S = c.events_with-events.ensures x.0 P.symbols_small P.sets_are in
    ((x.0, x.1, ahead_leads x.0 _ P.silently.table_is _ _ S _ _ c.preimage_by-into.ensures _ _ x.2), omega (arith, c.requires.1))

pub put_step-requires : goal.put_step-requires
put_step-requires c =
    let x = c.requires.0 in
    let P = x.1.prepared in
    let S = c.events_with-events.ensures x.0 P.symbols_small P.sets_are in
    let w = c.silent_walk-mid in
    let m = w.ensures.0 x.0 x.1 in (
      x.1.words,
      (λ e i. (S.sound e i).0),
      into_onward _ _ _ _ _ c.preimage_by-into.ensures w.ensures.1,
      omega (arith, c.requires.1, moved_size _ _ _ _ _ _ _ _ _ m, moved_place _ _ _ _ _ _ _ _ _ m),
    )

pub returns : goal.returns
returns c =
    let w = c.silent_walk-mid in
    let q = c.put_step in (
      (λ p P sub.
          let S = c.events_with-events.ensures p P.prepared.symbols_small P.prepared.sets_are in
          let out = c.args.symbol ∷ [] in
          moved_join p _ [] out 63 1 64 _ _ _ _ _ _ _ (omega arith) (w.ensures.0 p P)
          (q.ensures.0 p _ out P.prepared.silently.table_is (λ e i. (S.sound e i).1) sub)),
      q.ensures.1,
    )
