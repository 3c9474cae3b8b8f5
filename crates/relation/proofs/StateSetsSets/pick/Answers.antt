use Rattle.relation.proofs.FourSets.{four}
use Rattle.relation.proofs.StateSetsSets.pick.Goals as goal

pub returns : goal.returns
returns c = four _ c.picked.ensures c.picked-2.ensures c.picked-3.ensures c.picked-4.ensures
