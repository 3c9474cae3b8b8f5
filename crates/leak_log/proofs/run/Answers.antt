use Rattle.std.specs.Prelude.{Result}
use Rattle.std.proofs.Common.{List, ℕ, refl, subst, ◌-◌, ◌≤◌, length, take}
use Rattle.automaton.specs.declared.Header.{Header}
use Rattle.opacity.specs.declared.Notion.{Notion}
use Rattle.leaks.specs.declared.Search.{Search}
use Rattle.monitor.specs.Opening.{open_outcome, started}
use Rattle.leak_log.specs.Opens.{Opening}
use Rattle.leak_log.specs.Feeding.{not_opened, searched}
use Rattle.leak_log.proofs.Beginnings.{started_within, first_within, among_first}
use Rattle.leak_log.proofs.ReadingOn.{begun_takes}
use Rattle.leak_log.proofs.run.Goals as goal
use Rattle.refusal.specs.declared.Refusal.{Refusal}

-- its events are behind its front
behind : {notion : Notion} (input : List ℕ) {t : List ℕ} {h : Header} {s : Search} {first : ℕ} (n : ℕ) → n ≤ length input
    → Opening notion (take (n - 0) input) (started first) t h s → first ≤ n
behind input n here o = first_within input n here (started_within o).1

pub begin-begun-requires : goal.begin-begun-requires
begin-begun-requires g c =
    let called = c.open-opened in
    begun_takes (subst (λ (r : Result ℕ Refusal). Opening c.args.notion (take (c.args.n - 0) c.args.input.now) (open_outcome r) called.result.table
    called.result.header called.result.follower) c.in-Ok.is called.ensures)

pub returns-in-Err : goal.returns-in-Err
returns-in-Err g c =
    let called = c.open-opened in
    not_opened c.in-Err.refusal
    (subst (λ (r : Result ℕ Refusal). Opening c.args.notion (take (c.args.n - 0) c.args.input.now) (open_outcome r) called.result.table
    called.result.header called.result.follower) c.in-Err.is called.ensures) c.refuse.ensures refl

pub returns-in-Ok : goal.returns-in-Ok
returns-in-Ok g c =
    let a = c.args in
    let called = c.open-opened in
    let o = subst (λ (r : Result ℕ Refusal). Opening a.notion (take (a.n - 0) a.input.now) (open_outcome r) called.result.table
    called.result.header called.result.follower) c.in-Ok.is called.ensures in
    searched o (among_first c.in-Ok.first a.n a.input.now (behind a.input.now a.n c.requires o) c.requires c.begin-begun.ensures.begins) c.read_on.ensures
