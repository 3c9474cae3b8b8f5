-- `stateset::size` meets its contract: the digits that are set are the members.
use native.Mathlib.Omega.{arith}
use lib.Count.{ones-le}
use Rattle.stateset.proofs.Counting.{ones_counts}
use Rattle.stateset.proofs.size.Statement.{statement}
use Rattle.stateset.proofs.size.Tie as tie

cast-result : tie.Need-overflow_cast-result
cast-result c = omega (arith, ones-le 64 c.args.set c.ranges.set.fits)

returns : tie.Need-returns
returns c = ones_counts 64 c.args.set c.ranges.set.fits

pub size_spec : {M : Type 1} → statement M
size_spec = tie.close (tie.spec cast-result returns)
