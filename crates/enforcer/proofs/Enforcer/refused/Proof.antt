-- `Enforcer::refused` meets its contract.
use mathlib.Core.Path.{refl}
use Rattle.enforcer.proofs.Enforcer.refused.Statement.{statement}
use Rattle.enforcer.proofs.Enforcer.refused.Tie as tie

returns : tie.Need-returns
returns c = (refl, refl)

pub refused_spec : {M : Type 1} → statement M
refused_spec = tie.close (tie.spec returns)
