use Rattle.std.specs.Prelude.{ℕ, Result}
use Rattle.std.proofs.Common.{refl, subst}
use Rattle.monitor.specs.Opening.{open_outcome, Opening}
use Rattle.log_output.specs.Whole.{not_opened, opened}
use Rattle.log_output.proofs.Keeping.{begins}
use Rattle.log_output.proofs.following.start.Goals as goal
use Rattle.refusal.specs.declared.Refusal.{Refusal}

pub returns-in-Err : goal.returns-in-Err
returns-in-Err g c =
    let called = c.open-opened in
    not_opened c.in-Err.refusal
    (subst (λ (r : Result ℕ Refusal). Opening c.args.log.now (open_outcome r) called.result.table called.result.header called.result.follower)
    c.in-Err.is called.ensures) refl c.refuse.ensures

pub returns-in-Ok : goal.returns-in-Ok
returns-in-Ok g c =
    let a = c.args in
    let called = c.open-opened in
    let o = subst (λ (r : Result ℕ Refusal). Opening a.log.now (open_outcome r) called.result.table called.result.header called.result.follower)
    c.in-Ok.is called.ensures in
    opened o (λ room. begins a.log.now a.out.now c.in-Ok.first o room c.follow-progress.ensures)
