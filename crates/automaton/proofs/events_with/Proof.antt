-- `automaton::events_with` meets its contract: a byte above 31 is no symbol.
use native.Mathlib.Omega.{arith}
use borrow.Author.Rules.{rules}
use Rattle.automaton.proofs.SymbolSets.{showing_none}
use Rattle.automaton.proofs.events_with.Statement.{statement}
use Rattle.automaton.proofs.events_with.Tie as tie

returns : tie.Need-returns-then-at-gt31
returns c = λ p small b. showing_none p small _ (omega (arith, c.if-at-gt31.true))

mul-result : tie.Need-offset_bounds-sets-at
mul-result c = search rules

shared-slice-read-result : tie.Need-bounds-sets-at
shared-slice-read-result c = search rules

cast-result : tie.Need-overflow_cast-result
cast-result c = omega (arith, c.shared_slice_known-1.given c.args.symbol)

returns-2 : tie.Need-returns
returns-2 c = λ p small b. b.each _ (omega (arith, c.if-at-gt31.false))

pub events_with_spec : {M : Type 1} → statement M
events_with_spec = tie.close (tie.spec returns mul-result shared-slice-read-result cast-result returns-2)
