-- The transitions to targets below `to` are written.
use Rattle.encode.specs.FieldBits.{transitions_bits}
use Rattle.encode.specs.Rising.{in_row, targets}
use Rattle.encode.specs.Writes.{Writes}
use Rattle.encode.proofs.Writer.put_row.Given as goal

abbrev pub invariant-loop-to : goal.invariant-loop-to
invariant-loop-to l = Writes (transitions_bits (targets (λ t. in_row l.row t.to) l.from l.event l.to)) l.initial.self l.self
