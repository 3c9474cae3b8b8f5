use Rattle.std.specs.Prelude.{Result}
use Rattle.std.proofs.Common.{List, ℕ, subst, ◌-◌, ◌≤◌, length, take, drop}
use Rattle.automaton.specs.declared.Header.{Header}
use Rattle.opacity.specs.declared.Notion.TheVariants.{Weak}
use Rattle.leaks.specs.declared.Search.{Search}
use Rattle.monitor.specs.Opening.{open_outcome, started}
use Rattle.leak_log.specs.Opens.{Opening}
use Rattle.leak_log.proofs.Beginnings.{started_within, first_within}
use Rattle.streams.specs.declared.Begun.{Begun}
use Rattle.streams.specs.Following.{Begins}
use Rattle.witness_log.specs.Following.{On}
use Rattle.witness_log.specs.declared.Followed.{Followed}
use Rattle.witness_log.proofs.PrintedLog.{start_of, among_first, ready, ran_read, ran_refused}
use Rattle.witness_log.proofs.run.Goals as goal
use Rattle.refusal.specs.declared.Refusal.{Refusal}

-- the log has begun: its events are behind its front
begun : (input : List ℕ) (n first : ℕ) {t : List ℕ} {h : Header} {s : Search} {b : Begun Followed} → n ≤ length input
    → Opening Weak (take (n - 0) input) (started first) t h s → Begins (On t h) (start_of s) (take (n - first) (drop first input)) b
    → Begins (On t h) (start_of s) (drop first (take (n - 0) input)) b
begun input n first here o x = among_first first n input (first_within input n here (started_within o).1) here x

pub read_on-requires : goal.read_on-requires
read_on-requires g c =
    let a = c.args in
    let called = c.open-opened in
    let o = subst (λ (r : Result ℕ Refusal). Opening Weak (take (a.n - 0) a.input.now) (open_outcome r) called.result.table called.result.header
    called.result.follower) c.in-Ok.is called.ensures in
    ready (take (a.n - 0) a.input.now) _ _ _ _ _ _ o (begun a.input.now a.n c.in-Ok.first c.requires.0 o c.begin-begun.ensures.begins) c.begin-begun.ensures.takes c.requires.1

pub returns-in-Err : goal.returns-in-Err
returns-in-Err g c =
    let a = c.args in
    let called = c.open-opened in
    ran_refused (take (a.n - 0) a.input.now) _ c.in-Err.refusal _ _ _ c.refused_log.result _ _
    (subst (λ (r : Result ℕ Refusal). Opening Weak (take (a.n - 0) a.input.now) (open_outcome r) called.result.table called.result.header
    called.result.follower) c.in-Err.is called.ensures) c.requires.1 c.refused_log.ensures c.place.ensures

pub returns-in-Ok : goal.returns-in-Ok
returns-in-Ok g c =
    let a = c.args in
    let called = c.open-opened in
    let o = subst (λ (r : Result ℕ Refusal). Opening Weak (take (a.n - 0) a.input.now) (open_outcome r) called.result.table called.result.header
    called.result.follower) c.in-Ok.is called.ensures in
    ran_read (take (a.n - 0) a.input.now) _ _ _ _ _ _ _ _ o (begun a.input.now a.n c.in-Ok.first c.requires.0 o c.begin-begun.ensures.begins)
    c.read_on.ensures
