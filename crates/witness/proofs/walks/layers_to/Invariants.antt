use Rattle.relation.specs.Relation.{Row}
use Rattle.witness.proofs.Layering.{Layering}
use Rattle.witness.proofs.walks.layers_to.Given as goal

abbrev pub invariant-loop-layer : goal.invariant-loop-layer
invariant-loop-layer l = Layering (Row l.back) l.allowed l.target l.layers l.layer-index l.done l.wave
