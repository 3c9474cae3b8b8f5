-- `witness::walks::event_into` meets its contract. The invariant: an event that is left in `todo`, which falls, leads from the state into the set.
use mathlib.Core.Path.{◌≡◌, subst}
use mathlib.Core.Logic.{◌⊎◌, inl, inr}
use mathlib.Core.List.{List}
use Prim.Native.Nat.{ℕ, ◌+◌, ◌-◌, ◌*◌, ◌<◌, ◌^◌}
use native.Mathlib.Omega.{arith}
use native.Mathlib.Decide.{dec_lt}
use lib.Bits.{bit_and}
use lib.Count.{count_trailing_zeros}
use lib.ListN.{get_or}
use Rattle.stateset.specs.Set.{In}
use Rattle.stateset.proofs.Bits.{Taken, taken, in_lt, empty, meet, meet_none}
use Rattle.relation.specs.Relation.{Sub}
use Rattle.witness.specs.Inner.{Onward}
use Rattle.witness.proofs.walks.event_into.Statement.{statement}
use Rattle.witness.proofs.walks.event_into.Tie as tie

abbrev invariant-loop : tie.invariant-loop-events
invariant-loop table events from into todo₀ todo = (todo < 2 ^ 64) × Sub todo events × Onward table todo from into

abbrev decreases-loop : tie.decreases-loop-events
decreases-loop table events from into todo₀ todo = todo

full : (w e : ℕ) → In e w → 0 < w
full w e i = go (dec_lt 0 w)
  where
    go : Dec (0 < w) → 0 < w
    go (yes h) = h
    go (no h) =
        let z : w ≡ 0 = omega arith in
        absurd (empty e w z i)

pick : (c : tie.At-loop-events invariant-loop decreases-loop) → Taken c.loop-events.todo (count_trailing_zeros 64 c.loop-events.todo) (bit_and c.loop-events.todo (c.loop-events.todo - 1))
pick c = let x = c.loop-events.invariant.2.listed in taken c.loop-events.todo (full c.loop-events.todo x.0 x.1) c.loop-events.invariant.0

-- the event that is tried
event : (c : tie.At-loop-events invariant-loop decreases-loop) → count_trailing_zeros 64 c.loop-events.todo < 32
event c = c.requires.1 _ (c.loop-events.invariant.1 _ (pick c).inside)

-- the state from which it is tried
state : (c : tie.At-loop-events invariant-loop decreases-loop) → c.args.from < 64
state c = c.loop-events.invariant.2.listed.2.from_small

loop-holds : tie.Need-loop-events-init invariant-loop decreases-loop
loop-holds c = (c.ranges.events.fits, λ e i. i, c.requires.2)

cast-e : tie.Need-overflow_cast-e invariant-loop decreases-loop
cast-e c = omega (arith, event c)

mul-if1 : tie.Need-overflow_mul-e invariant-loop decreases-loop
mul-if1 c = omega (arith, event c)

add-if1 : tie.Need-overflow_add-e invariant-loop decreases-loop
add-if1 c = omega (arith, event c, state c)

mul-if1-2 : tie.Need-offset_bounds-table-e invariant-loop decreases-loop
mul-if1-2 c = omega (arith, event c, state c)

shared-slice-read-if1 : tie.Need-bounds-table-e invariant-loop decreases-loop
shared-slice-read-if1 c = omega (arith, event c.before, state c.before, c.requires.0)

cast-result : tie.Need-overflow_cast-result invariant-loop decreases-loop
cast-result c = omega (arith, event c.before.before)

returns : tie.Need-returns-then-table-e-ne0 invariant-loop decreases-loop
returns c =
    let m = meet (get_or c.args.table.now (64 * count_trailing_zeros 64 c.loop-events.todo + c.args.from) 0) c.args.into c.ranges.into.fits
    c.if-table-e-ne0.true in (
      c.loop-events.invariant.1 _ (pick c.before.before).inside,
      (m.0, m.2, record { from_small = state c.before.before; event_small = event c.before.before; to_small = in_lt 64 _ _ c.ranges.into.fits m.2; listed = m.1 }),
    )

sub-todo : tie.Need-overflow_sub-todo invariant-loop decreases-loop
sub-todo c =
    let l = c.loop-events in
    let x = l.invariant.2.listed in
    omega (arith, full l.todo x.0 x.1)

loop-less : tie.Need-loop-events-smaller invariant-loop decreases-loop
loop-less c = (pick c.before.before).less

-- an event that leads into the set is not the one that was tried
left : (t : List ℕ) (todo e rest from into : ℕ) → Taken todo e rest → bit_and (get_or t (64 * e + from) 0) into ≡ 0 → Onward t todo from into
    → Onward t rest from into
left t todo e rest from into k none x = go (k.left x.listed.0 x.listed.1)
  where
    go : (x.listed.0 ≡ e) ⊎ In x.listed.0 rest → Onward t rest from into
    go (inl same) =
        absurd (meet_none _ into x.to none (subst (λ (y : ℕ). In x.to (get_or t (64 * y + from) 0)) same x.listed.2.listed) x.inside)
    go (inr i) = record { to = x.to; inside = x.inside; listed = (x.listed.0, i, x.listed.2) }

loop-again : tie.Need-loop-events-preserved invariant-loop decreases-loop
loop-again c = (
  omega (arith, (pick c.before.before).less, c.loop-events.invariant.0),
  λ e i. c.loop-events.invariant.1 e ((pick c.before.before).kept e i),
  left _ _ _ _ _ _ (pick c.before.before) c.if-table-e-ne0.false c.loop-events.invariant.2,
)

pub event_into_spec : {M : Type 1} → statement M
event_into_spec =
    tie.close
    (tie.spec
    invariant-loop
    decreases-loop
    loop-holds
    cast-e
    mul-if1
    add-if1
    mul-if1-2
    shared-slice-read-if1
    cast-result
    returns
    sub-todo
    loop-less
    loop-again)
