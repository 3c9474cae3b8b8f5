use Rattle.std.proofs.Common.{List, ℕ, ◌≡◌, ◌*◌, ◌≤◌, ◌<◌, ◌^◌, length, replicate, Result, Ok, refl, arith}
use Rattle.refusal.specs.declared.Refusal.{Refusal}
use Rattle.automaton.specs.declared.Header.{Header}
use Rattle.opacity.specs.declared.Notion.{Notion}
use Rattle.verifier.specs.declared.Estimator.{Estimator}
use Rattle.witness.specs.declared.Run.{Run}
use Rattle.witness.specs.Answers.{Usable, InReachOf, WritingIn, told}
use Rattle.witness_log.proofs.Lining.{no_line, written_run, run_room, run_line}
use Rattle.witness_log.proofs.telling.put_line.Goals as goal

-- the pairs of a run that was written stand inside what was lent for them
room : (t : List ℕ) (h : Header) (s : Estimator) (notion : Notion) (k : ℕ) → Usable t h s → InReachOf h s 0 k → (a : Result Run Refusal) (run : Run) (after : List ℕ)
    → a ≡ Ok run → WritingIn t h s notion 0 k (replicate 2172 0) (told a) after → (2 * run.pairs < 2 ^ 64) × (2 * run.pairs ≤ length after)
room t h s notion k usable reach a run after is w =
    run_room _ _ _ _ _ usable reach (replicate 2172 0) refl _ _ _
    (written_run t h s notion k usable reach (replicate 2172 0) refl a run after is w)

pub overflow_mul-n : goal.overflow_mul-n
overflow_mul-n c =
    let a = c.args in
    let x = room a.table.now a.header a.estimator a.notion a.k c.requires.0 c.requires.1 c.witness.result c.in-Ok.run' c.witness.new.output
    c.in-Ok.is c.witness.ensures in
    omega (arith, x.0)

pub slice_bounds-witness-end-in-Ok : goal.slice_bounds-witness-end-in-Ok
slice_bounds-witness-end-in-Ok c =
    let a = c.args in
    (room a.table.now a.header a.estimator a.notion a.k c.requires.0 c.requires.1 c.witness.result c.in-Ok.run' c.witness.new.output
    c.in-Ok.is c.witness.ensures).1

pub returns-in-Err : goal.returns-in-Err
returns-in-Err c =
    no_line _ _ _ _ _ c.requires.0 c.requires.1 (replicate 2172 0) refl c.witness.result c.in-Err.field-0 _ c.in-Err.is c.witness.ensures _ _
    c.no_witness.result _ _ c.requires.2 c.no_witness.ensures c.place.ensures

pub returns-in-Ok : goal.returns-in-Ok
returns-in-Ok c =
    let a = c.args in
    let written = written_run a.table.now a.header a.estimator a.notion a.k c.requires.0 c.requires.1 (replicate 2172 0) refl c.witness.result
    c.in-Ok.run' c.witness.new.output c.in-Ok.is c.witness.ensures in
    run_line _ _ _ _ _ c.requires.0 c.requires.1 (replicate 2172 0) refl _ _ _ written _ _ c.witness-in-Ok.result _ _ c.requires.2
    c.witness-in-Ok.ensures c.place-in-Ok.ensures
