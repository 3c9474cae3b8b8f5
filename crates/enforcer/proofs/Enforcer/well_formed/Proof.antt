-- `enforcer::Enforcer::well_formed` meets its contract: the estimator's limits, and those of the pending symbols.
use mathlib.Core.Path.{subst}
use Prim.Native.Nat.{ℕ}
use Rattle.stateset.specs.Set.{Decided}
use Rattle.stateset.proofs.Decides.{holds, fails}
use Rattle.enforcer.specs.Inner.{PendingWithin}
use Rattle.enforcer.proofs.TakingIn.{limits_decide}
use borrow.Author.Rules.{rules}
use Rattle.enforcer.proofs.Enforcer.well_formed.Statement.{statement}
use Rattle.enforcer.proofs.Enforcer.well_formed.Tie as tie

well-formed-requires : tie.Need-well_formed-requires
well-formed-requires c κs = search rules

returns : tie.Need-returns-then-not-well_formed
returns c = λ both. fails c.well_formed-2.result c.if-not-well_formed.true c.well_formed-2.ensures (both.0, both.1.estimator)

look-back-requires : tie.Need-look_back-k-requires
look-back-requires c κs = search rules

pending-within-requires : tie.Need-pending_within-requires
pending-within-requires c κs = search rules

returns-2 : tie.Need-returns
returns-2 c =
    let good = holds c.well_formed-2.result c.if-not-well_formed.false c.well_formed-2.ensures in
    let a = c.args in
    limits_decide a.table.now a.header a.self c.pending_within.result good.0 good.1
    (subst (λ (k : ℕ). Decided c.pending_within.result (PendingWithin k a.self)) c.look_back-k.ensures c.pending_within.ensures)

pub well_formed_spec : {M : Type 1} → statement M
well_formed_spec = tie.close (tie.spec well-formed-requires returns look-back-requires pending-within-requires returns-2)
