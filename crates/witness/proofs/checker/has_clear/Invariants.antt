use Rattle.std.proofs.Common.{◌≡◌, List, length}
use Rattle.automaton.specs.Run.{Automaton, Step}
use Rattle.witness.specs.Witnesses.{bytes_of}
use Rattle.witness.proofs.Scanning.{Scanned}
use Rattle.witness.proofs.checker.has_clear.Given as goal

-- the pairs that are left say whether a position is clear
abbrev pub invariant-loop-rest : goal.invariant-loop-rest
invariant-loop-rest l = (p : Automaton) (steps : List Step) → p.observable ≡ l.observable → bytes_of steps ≡ l.pairs → Scanned p l.secret l.start steps l.q l.rest

abbrev pub decreases-loop-rest : goal.decreases-loop-rest
decreases-loop-rest l = length l.rest
