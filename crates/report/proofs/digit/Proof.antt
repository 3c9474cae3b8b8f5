use borrow.Author.Rules.{rules}
use native.Mathlib.Omega.{arith}
use Rattle.report.proofs.digit.Statement.{statement}
use Rattle.report.proofs.digit.Tie as tie

cast-result : tie.Need-overflow_cast-result
cast-result c = search rules

add-result : tie.Need-overflow_add-result
add-result c = search rules

returns : tie.Need-returns
returns c = omega arith

pub digit_spec : {M : Type 1} → statement M
digit_spec = tie.close (tie.spec cast-result add-result returns)
