use Rattle.automaton.specs.Run.{Automaton}
use Rattle.witness.specs.Inner.{Goes}
use Rattle.witness.proofs.Walking.{Walking}
use Rattle.witness.proofs.walks.silent_walk.Given as goal

-- of every automaton that fits: a layer lower with each step
abbrev pub invariant-loop-d : goal.invariant-loop-d
invariant-loop-d l = (p : Automaton) → Goes p l.ways
    → Walking p l.ways.allowed l.target l.layers l.fn.place.state l.fn.place.at l.fn.output l.output l.now.state l.now.at l.d
