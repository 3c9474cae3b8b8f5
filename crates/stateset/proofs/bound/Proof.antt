-- `stateset::bound` meets its contract: a word is below the power of 2 at its length. Assumes nothing.
use native.Mathlib.Omega.{arith}
use lib.Count.{leading_le, leading_length}
use Rattle.stateset.proofs.Bits.{in_lt}
use Rattle.stateset.proofs.bound.Statement.{statement}
use Rattle.stateset.proofs.bound.Tie as tie

cast-result : tie.Need-overflow_cast-result
cast-result c = omega (arith, leading_le 64 c.args.set)

sub-result : tie.Need-overflow_sub-result
sub-result c = omega (arith, leading_le 64 c.args.set)

returns : tie.Need-returns
returns c = (
  omega arith,
  λ q i.
      let m = leading_length 64 c.args.set c.ranges.set.fits in
      omega (arith, m.1, in_lt m.0 q c.args.set m.2 i),
)

pub bound_spec : {M : Type 1} → statement M
bound_spec = tie.close (tie.spec cast-result sub-result returns)
