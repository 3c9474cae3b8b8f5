use Rattle.automaton.specs.Run.{Automaton}
use Rattle.witness.specs.Inner.{Goes, LookedBack}
use Rattle.witness.proofs.Going.{Going}
use Rattle.witness.proofs.writer.follow_symbols.Given as goal

-- of every automaton that fits: one symbol fewer is left with each walk
abbrev pub invariant-loop-i : goal.invariant-loop-i
invariant-loop-i l = (p : Automaton) → Goes p l.ways → LookedBack p l.ways.allowed l.symbols l.k l.then
    → Going p l.ways.allowed l.symbols l.then l.k l.fn.place.state l.fn.place.at l.fn.output l.output l.now.state l.now.at l.i
