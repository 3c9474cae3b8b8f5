use Rattle.std.proofs.Common.{◌≡◌, length}
use Rattle.automaton.specs.Run.{Automaton}
use Rattle.witness.specs.Inner.{Goes, LookedBack}
use Rattle.witness.proofs.writer.look_back.Given as goal

-- so it is for the first `i` numbers
abbrev pub invariant-loop-i : goal.invariant-loop-i
invariant-loop-i l = (length l.then ≡ 16) × ((p : Automaton) → Goes p l.ways → LookedBack p l.ways.allowed l.symbols l.i l.then)
