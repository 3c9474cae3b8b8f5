-- The transitions from the states below `from` are written.
use Rattle.bitfields.specs.Bits.{bits_of}
use Rattle.encoding.specs.Transitions.{listed, transitions_at}
use Rattle.encode.specs.Wrote.{WroteList}
use Rattle.encode.specs.Rising.{rising}
use Rattle.canonical.proofs.put_transitions.Given as goal

abbrev pub invariant-loop-from : goal.invariant-loop-from
invariant-loop-from l = WroteList (rising (λ t. listed t (transitions_at (bits_of l.bytes) l.at l.count)) l.states l.events l.from) l.next l.p
    l.initial.output l.output
