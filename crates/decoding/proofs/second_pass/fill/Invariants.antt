-- The table is that of the transitions so far.
use Rattle.std.proofs.Common.{◌≡◌}
use Rattle.bitfields.specs.Bits.{bits_of}
use Rattle.encoding.specs.Transitions.{transitions_at}
use Rattle.encoding.specs.Table.{table_of}
use Rattle.decoding.proofs.second_pass.fill.Given as goal

abbrev pub invariant-loop-placed : goal.invariant-loop-placed
invariant-loop-placed l = l.table ≡ table_of (transitions_at (bits_of l.reader.bytes.now) l.reader.position l.placed)
