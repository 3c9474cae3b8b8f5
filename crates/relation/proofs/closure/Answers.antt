use Rattle.std.proofs.Common.{arith}
use lib.Bits.{and_le_l}
use lib.Count.{count_trailing_zeros}
use Rattle.stateset.specs.Set.{complement}
use Rattle.stateset.proofs.Bits.{trailing_in, empty}
use Rattle.relation.specs.Relation.{Row}
use Rattle.relation.proofs.Closing.{close_start, close_turn, close_less, close_end, close_full}
use Rattle.relation.proofs.FourSets.{total_less}
use Rattle.relation.proofs.closure.Goals as goal

pub loop-wave-init : goal.loop-wave-init
loop-wave-init g c =
    let s = g.S.Sets in
    λ i l.
    let w = s.of_each _ c.without-missing.ensures i l in
    close_start _ _ _ _ _ w.0 (s.of_each _ c.both-wave.ensures i l) w.1

pub returns-then-any-eq0 : goal.returns-then-any-eq0
returns-then-any-eq0 g c =
    let s = g.S.Sets in
    s.each_of _ (λ i h. close_end (Row c.args.rows.now) _ _ _ _ _ _ (s.of_each _ c.both-wave-in-loop-wave.ensures i h)
    (s.of_each _ c.image.ensures i h) (c.loop-wave.invariant i h) _ (s.of_each _ c.without.ensures i h).1
    (λ q j. empty q _ c.if-any-eq0.true (c.any-in-loop-wave.ensures.whole q (i, h, j))))

pub loop-wave-smaller : goal.loop-wave-smaller
loop-wave-smaller g c =
    let s = g.S.Sets in
    let l = c.loop-wave in
    let new = c.both-wave-in-loop-wave in
    let any = c.any-in-loop-wave in
    let rest = c.without-missing-in-loop-wave in
    let m = any.ensures.sound (count_trailing_zeros 64 any.result)
    (trailing_in 64 any.result (omega (arith, c.if-any-eq0.false)) (omega arith)) in
    total_less (s.at l.missing) (s.at rest.result) s.count
    (λ i h. omega (arith, (s.of_each _ rest.ensures i h).1, and_le_l (s.at l.missing i) (complement (s.at new.result i)))) m.0 m.1
    (close_less (Row c.args.rows.now) _ _ _ _ _ _ (s.of_each _ new.ensures m.0 m.1) (s.of_each _ c.image.ensures m.0 m.1)
    (l.invariant m.0 m.1) _ (s.of_each _ rest.ensures m.0 m.1).1 _ m.2)

pub loop-wave-preserved : goal.loop-wave-preserved
loop-wave-preserved g c =
    let s = g.S.Sets in
    λ i h. close_turn (Row c.args.rows.now) _ _ _ _ _ _ (s.of_each _ c.both-wave-in-loop-wave.ensures i h)
    (s.of_each _ c.image.ensures i h) (c.loop-wave.invariant i h) _ (s.of_each _ c.without-missing-in-loop-wave.ensures i h).1

pub returns : goal.returns
returns g c =
    let s = g.S.Sets in
    s.each_of _ (λ i h. close_full (Row c.args.rows.now) _ _ _ _ (λ q j. empty q _ c.loop-wave-test.false (c.any.ensures.whole q (i, h, j)))
    (c.loop-wave.invariant i h))
