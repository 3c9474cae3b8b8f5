-- The target is small enough for a word.
use Rattle.stateset.proofs.Bits.{one_shl}
use Rattle.encoding.specs.Table.{mark}
use Rattle.encoding.proofs.transitions.place.Goals as goal

pub returns : goal.returns
unfolding mark
returns c = rw (one_shl _ c.requires.3)
