-- The events that show the symbol lead there, by what is the other way round.
use Rattle.std.proofs.Common.{arith}
use Rattle.estimates.proofs.LookBack.{follows_step}
use Rattle.estimates.proofs.look_back.LookBack.step_back.Goals as goal

pub backward_reach-requires : goal.backward_reach-requires
backward_reach-requires g c =
    let k = c.requires.0.looks in
    (c.requires.0.words, λ e i. ((c.events_with-shown.ensures _ k.symbols_small k.sets_are).sound e i).0)

pub returns : goal.returns
returns g c =
    let s = g.S.Sets in
    let k = c.requires.0.looks in
    let shown = c.events_with-shown.ensures _ k.symbols_small k.sets_are in
    s.each_of _ (λ i h n trace few m sub f.
    follows_step _ _ trace n _ _ _ _ m few (s.of_each _ c.backward_reach.ensures i h _ _ _ _ k.table_is shown (k.back_are (omega arith)) sub f))
