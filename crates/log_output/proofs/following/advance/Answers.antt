use Rattle.std.specs.Prelude.{Result}
use Rattle.std.proofs.Common.{subst}
use Rattle.monitor.specs.Advancing.{advance_outcome, Advancing}
use Rattle.log_output.specs.Progressing.{none, some}
use Rattle.log_output.proofs.following.advance.Goals as goal
use Rattle.monitor.specs.declared.Advance.{Advance}
use Rattle.refusal.specs.declared.Refusal.{Refusal}

pub returns-in-Err-clause-parted : goal.returns-in-Err-clause-parted
returns-in-Err-clause-parted c =
    let a = c.args in
    let called = c.advance-advanced in
    none (subst (λ (x : Result Advance Refusal). Advancing a.table.now a.header a.progress.monitor a.events.now a.out.now a.progress.at
    (advance_outcome x) called.result.monitor called.new.out) c.in-Err.is called.ensures)

pub returns-in-Ok-clause-parted : goal.returns-in-Ok-clause-parted
returns-in-Ok-clause-parted c =
    let a = c.args in
    let called = c.advance-advanced in
    some (subst (λ (x : Result Advance Refusal). Advancing a.table.now a.header a.progress.monitor a.events.now a.out.now a.progress.at
    (advance_outcome x) called.result.monitor called.new.out) c.in-Ok.is called.ensures)
