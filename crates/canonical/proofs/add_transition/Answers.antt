use Rattle.std.proofs.Common.{ℕ, ◌≡◌, ◌+◌, ◌≤◌, ◌<◌, List, length, sym, ◌∙◌, arith}
use Rattle.stateset.proofs.Bits.{one_shl}
use Rattle.bitfields.specs.Bits.{bits_of, number_at}
use Rattle.bitfields.proofs.Bits.{number_lt}
use Rattle.canonical.proofs.Gathered.{added_here, added_not}
use Rattle.canonical.proofs.add_transition.Goals as goal

-- the numbers are small enough for the rows
small_event : (bytes : List ℕ) (at : ℕ) {event : ℕ} → at + 17 ≤ length (bits_of bytes) → event ≡ number_at (bits_of bytes) (at + 6) 5 → event < 32
small_event bytes at h e = omega (arith, number_lt bytes (at + 6) 5 (omega arith))

small_to : (bytes : List ℕ) (at : ℕ) {to : ℕ} → at + 17 ≤ length (bits_of bytes) → to ≡ number_at (bits_of bytes) (at + 6 + 5) 6 → to < 64
small_to bytes at h e = omega (arith, number_lt bytes (at + 6 + 5) 6 (omega arith))

pub overflow_shl-rows : goal.overflow_shl-rows
overflow_shl-rows c = small_to c.args.bytes.now c.args.at c.requires.1 c.number_at-to.ensures

pub offset_bounds-rows-event : goal.offset_bounds-rows-event
offset_bounds-rows-event c = omega (arith, small_event c.args.bytes.now c.args.at c.requires.1 c.number_at-event.ensures)

pub bounds-rows-event : goal.bounds-rows-event
bounds-rows-event c = small_event c.args.bytes.now c.args.at c.requires.1 c.number_at-event.ensures

pub bounds-rows-event-then-number_at-from : goal.bounds-rows-event-then-number_at-from
bounds-rows-event-then-number_at-from c = small_event c.args.bytes.now c.args.at c.requires.1 c.number_at-event.ensures

pub returns-then-number_at-from : goal.returns-then-number_at-from
returns-then-number_at-from c =
    let a = c.args in
    rw (one_shl _ (small_to a.bytes.now a.at c.requires.1 c.number_at-to.ensures), c.number_at-event.ensures, c.number_at-to.ensures)
    (added_here (bits_of a.bytes.now) a.at a.from _ (sym c.number_at.ensures ∙ c.if-number_at-from.true))

pub returns-else-number_at-from : goal.returns-else-number_at-from
returns-else-number_at-from c =
    let a = c.args in
    added_not (bits_of a.bytes.now) a.at a.from _ (λ e. c.if-number_at-from.false (c.number_at.ensures ∙ e))
