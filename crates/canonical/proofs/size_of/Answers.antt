use Rattle.encode.specs.Packing.{size_of}
use Rattle.canonical.proofs.size_of.Goals as goal

pub returns : goal.returns
unfolding size_of
returns c = rw c.end.ensures
