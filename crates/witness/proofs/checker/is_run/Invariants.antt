use Rattle.std.proofs.Common.{◌≤◌, length}
use Rattle.automaton.specs.Run.{automaton_of}
use Rattle.witness.specs.Witnesses.{recent}
use Rattle.witness.proofs.Scanning.{Reading}
use Rattle.witness.proofs.checker.is_run.Given as goal

-- the pairs that are left say whether all are steps that show the symbols
abbrev pub invariant-loop-rest : goal.invariant-loop-rest
invariant-loop-rest l = (l.left ≤ l.k)
    × Reading (automaton_of l.table l.header) l.allowed (recent l.k l.last) l.start l.pairs (recent l.left l.last) l.q l.rest

abbrev pub decreases-loop-rest : goal.decreases-loop-rest
decreases-loop-rest l = length l.rest
