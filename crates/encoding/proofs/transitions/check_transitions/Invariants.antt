-- The second reader stands behind the transitions so far, which `transitions` reads to their end.
use Rattle.std.proofs.Common.{◌≡◌, ◌+◌, ◌*◌}
use Rattle.bitfields.specs.Bits.{bits_of}
use Rattle.bitfields.specs.Parser.{done}
use Rattle.encoding.specs.Transitions.{transitions_at}
use Rattle.encoding.specs.Encoding.{transitions}
use Rattle.encoding.proofs.transitions.check_transitions.Given as goal

abbrev pub invariant-loop-i : goal.invariant-loop-i
invariant-loop-i l =
    (l.next.bytes ≡ l.reader.bytes) × (l.next.position ≡ l.reader.position + l.i * 17)
    × (transitions l.fixed.topstate l.fixed.topevent l.i (bits_of l.reader.bytes.now) l.reader.position
    ≡ done (transitions_at (bits_of l.reader.bytes.now) l.reader.position l.i) (l.reader.position + l.i * 17))
