use Rattle.std.proofs.Common.{arith}
use Rattle.bitfields.specs.Bits.{bits_of}
use Rattle.encoding.specs.Transitions.{listed, transitions_at}
use Rattle.encode.proofs.Lengths.{rising_bits}
use Rattle.encode.proofs.Steps.{listed_start, listed_then, rising_none}
use Rattle.canonical.proofs.Enumerated.{rising_rows}
use Rattle.canonical.proofs.put_transitions.Goals as goal

pub loop-from-init : goal.loop-from-init
loop-from-init c = listed_start _ _ _ (rising_none _ _ _)

pub put_state-p-requires : goal.put_state-p-requires
put_state-p-requires c =
    let a = c.args in
    omega (
      arith,
      c.rows_of-rows.ensures.size,
      rising_bits (λ t. listed t (transitions_at (bits_of a.bytes.now) a.at a.count)) a.states a.events c.loop-from.from (omega arith) (omega arith),
    )

pub loop-from-preserved : goal.loop-from-preserved
loop-from-preserved c =
    listed_then _ _ _ _ _ _ (rising_rows _ _ _ _ _ c.rows_of-rows.ensures (omega arith)) c.loop-from.invariant c.put_state-p.ensures
