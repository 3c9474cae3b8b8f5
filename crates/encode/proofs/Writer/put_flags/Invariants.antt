-- The first `i` flags are written.
use Rattle.encode.specs.Packing.{flag_bits}
use Rattle.encode.specs.Writes.{Writes}
use Rattle.encode.proofs.Writer.put_flags.Given as goal

abbrev pub invariant-loop-i : goal.invariant-loop-i
invariant-loop-i l = Writes (flag_bits l.i l.set) l.initial.self l.self
