-- The rows have the first `i` transitions.
use Rattle.bitfields.specs.Bits.{bits_of}
use Rattle.encoding.specs.Transitions.{transitions_at}
use Rattle.canonical.specs.Rows.{RowsOf}
use Rattle.canonical.proofs.rows_of.Given as goal

abbrev pub invariant-loop-i : goal.invariant-loop-i
invariant-loop-i l = RowsOf (transitions_at (bits_of l.bytes) l.at l.i) l.from l.rows
