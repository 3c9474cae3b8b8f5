use Rattle.relation.proofs.FourSets.{union_of}
use Rattle.relation.proofs.StateSetsSets.any.Goals as goal

pub returns : goal.returns
returns c = union_of c.args.self
