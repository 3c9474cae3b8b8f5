-- The first `i` bits of the field are written.
use Rattle.std.proofs.Common.{◌-◌, ◌/◌, ◌^◌}
use Rattle.encode.specs.Packing.{number_bits}
use Rattle.encode.specs.Writes.{Writes}
use Rattle.encode.proofs.Writer.put_number.Given as goal

abbrev pub invariant-loop-i : goal.invariant-loop-i
invariant-loop-i l = Writes (number_bits l.i (l.value / 2 ^ (l.width - l.i))) l.initial.self l.self
