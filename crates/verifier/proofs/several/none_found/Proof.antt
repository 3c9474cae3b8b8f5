-- `verifier::several::none_found` meets its contract.
use mathlib.Core.Path.{refl}
use Rattle.relation.proofs.FourSets.{four}
use Rattle.verifier.proofs.several.none_found.Statement.{statement}
use Rattle.verifier.proofs.several.none_found.Tie as tie

returns : tie.Need-returns
returns c = four _ refl refl refl refl

pub none_found_spec : {M : Type 1} → statement M
none_found_spec = tie.close (tie.spec returns)
