-- None of the first `i` transitions is the one in question.
use Rattle.std.proofs.Common.{◌≡◌, ◌+◌, ◌*◌, false}
use Rattle.bitfields.specs.Bits.{bits_of}
use Rattle.encoding.specs.Transitions.{listed, transition_at, transitions_at}
use Rattle.encoding.proofs.transitions.repeated.Given as goal

abbrev pub invariant-loop-i : goal.invariant-loop-i
invariant-loop-i l = listed (transition_at (bits_of l.bytes) (l.at + l.n * 17)) (transitions_at (bits_of l.bytes) l.at l.i) ≡ false
