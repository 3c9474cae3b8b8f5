-- `leaks::first_leak` meets its contract: a search of one block. (No leak is found before the first byte.)
use Rattle.std.proofs.Common.{◌≡◌, ℕ, List, ◌<◌, ◌^◌, length, subst, arith}
use Rattle.std.specs.Prelude.{Option, Some, None, Result, Ok, Err}
use Rattle.refusal.specs.declared.Refusal.{Refusal}
use Rattle.automaton.specs.declared.Header.{Header}
use Rattle.opacity.specs.declared.Notion.{Notion}
use Rattle.opacity.specs.declared.Further.{Further}
use Rattle.leaks.specs.declared.Search.{Search}
use Rattle.leaks.specs.FirstLeaks.{Said, said, Finding}
use Rattle.leaks.specs.Searches.{Beginning, Advancing}
use Rattle.leaks.proofs.Outcomes.{finding_refused, never_at, finding_advanced}
use Rattle.leaks.proofs.first_leak.Goals as goal

-- what a search that has begun had found before the first byte
advanced : (notion : Notion) (t : List ℕ) (h : Header) (f : Further) (bytes : List ℕ) (before : Option ℕ) (s e : Search) (says : Said) → length bytes < 2 ^ 64
    → Beginning notion t h f (said (Ok before)) s → Advancing t h s bytes says e → Finding notion t h f bytes says
advanced notion t h f bytes None s e says short b x = finding_advanced notion t h f bytes s e says short b x
advanced notion t h f bytes (Some place) s e says short b x = never_at notion t h f place s b

pub returns-in_err-begun : goal.returns-in_err-begun
returns-in_err-begun c =
    let called = c.begin-begun in
    let a = c.args in
    let e : c.from_residual.result ≡ Err c.in_err-begun.field-0.0 = grind arith in
    rw e
    (finding_refused a.notion a.table.now a.header a.further a.bytes.now _ called.result.search
    (subst (λ (x : Result (Option ℕ) Refusal). Beginning a.notion a.table.now a.header a.further (said x) called.result.search)
    c.in_err-begun.was called.ensures))

pub returns : goal.returns
returns c =
    let called = c.begin-begun in
    let a = c.args in
    advanced a.notion a.table.now a.header a.further a.bytes.now c.in_ok-begun.field-0 called.result.search _ _ (omega (arith, c.well_formed))
    (subst (λ (x : Result (Option ℕ) Refusal). Beginning a.notion a.table.now a.header a.further (said x) called.result.search)
    c.in_ok-begun.was called.ensures) c.advance-reply.ensures
