-- The word is the set that the first `i` bits stand for.
use Rattle.std.proofs.Common.{◌≡◌, take, drop}
use Rattle.bitfields.specs.Bits.{bits_of, set_of}
use Rattle.bitfields.proofs.set_at.Given as goal

abbrev pub invariant-loop-i : goal.invariant-loop-i
invariant-loop-i l = l.set ≡ set_of (take l.i (drop l.at (bits_of l.bytes)))
