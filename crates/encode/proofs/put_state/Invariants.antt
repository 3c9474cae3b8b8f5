-- The transitions of the events below `event` are written.
use Rattle.encode.specs.FieldBits.{transitions_bits}
use Rattle.encode.specs.Rising.{in_rows, outgoing}
use Rattle.encode.specs.Writes.{Writes}
use Rattle.encode.proofs.put_state.Given as goal

abbrev pub invariant-loop-event : goal.invariant-loop-event
invariant-loop-event l = Writes (transitions_bits (outgoing (in_rows l.rows) l.from l.states l.event)) l.initial.writer l.writer
