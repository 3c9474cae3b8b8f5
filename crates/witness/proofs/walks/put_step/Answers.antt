-- The step leads to the first state that both the event's row and the set have.
use Rattle.std.proofs.Common.{◌≡◌, ℕ, ◌<◌, ◌^◌, bit_and, arith}
use native.Mathlib.Decide.{dec_lt}
use lib.Bits.{and_le_r}
use lib.Count.{count_trailing_zeros}
use Rattle.stateset.specs.Set.{In}
use Rattle.stateset.proofs.Bits.{in_lt, in_and, and_in, empty, trailing_in}
use Rattle.witness.proofs.Moving.{moved_one, moved_shows}
use Rattle.witness.proofs.walks.put_step.Goals as goal

-- a common member of two words, the one that `trailing_zeros` finds
record Common (a b q : ℕ) : Type 0 where
  first : In q a
  second : In q b
  small : q < 64

common : (a b q : ℕ) → b < 2 ^ 64 → In q a → In q b → Common a b (count_trailing_zeros 64 (bit_and a b))
common a b q h i j =
    let fits : bit_and a b < 2 ^ 64 = omega (arith, and_le_r a b) in
    let m = trailing_in 64 (bit_and a b) (go (dec_lt 0 (bit_and a b))) fits in
    let x = in_and (count_trailing_zeros 64 (bit_and a b)) a b m in
    record { first = x.0; second = x.1; small = in_lt 64 (count_trailing_zeros 64 (bit_and a b)) (bit_and a b) fits m }
  where
    go : Dec (0 < bit_and a b) → 0 < bit_and a b
    go (yes l) = l
    go (no n) =
        let z : bit_and a b ≡ 0 = omega arith in
        absurd (empty q (bit_and a b) z (and_in q a b i j))

pub bounds-table-event : goal.bounds-table-event
bounds-table-event c = let x = c.event_into-event.ensures.1.2 in omega (arith, x.from_small, x.event_small, c.requires.0)

pub overflow_cast-to-2 : goal.overflow_cast-to-2
overflow_cast-to-2 c =
    let x = c.event_into-event.ensures.1 in
    omega (arith, (common _ _ x.0 c.ranges.into.fits x.2.listed x.1).small)

pub returns : goal.returns
returns c =
    let x = c.event_into-event.ensures in
    let y = common _ _ x.1.0 c.ranges.into.fits x.1.2.listed x.1.1 in (
      (λ p allowed out same shows sub. moved_shows p allowed _ out _ _ _ _ _ _ (shows _ x.0)
          (moved_one p allowed _ _ _ _ _ _
          (rw same (record { from_small = x.1.2.from_small; event_small = x.1.2.event_small; to_small = y.small; listed = y.first }))
          (sub _ y.second) c.put_pair.ensures)),
      y.second,
    )
