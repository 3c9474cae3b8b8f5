-- What the two functions of witnesses answer and leave, from what `witness` promises and the bytes that were read and written. Assumes nothing.
use Prim.Native.Nat.{ℕ, ◌≤◌}
use Rattle.std.specs.Prelude.{Result, Ok, Err}
use mathlib.Core.Path.{◌≡◌, refl, sym, subst}
use mathlib.Core.Bool.{Bool, true, false}
use mathlib.Core.List.{List}
use native.Mathlib.Omega.{arith}
use Rattle.refusal.specs.Refusals.{number_of}
use Rattle.refusal.specs.declared.Refusal.{Refusal}
use Rattle.automaton.specs.Run.{Step}
use Rattle.automaton.specs.declared.Header.{Header}
use Rattle.opacity.specs.declared.Notion.{Notion}
use Rattle.verifier.specs.declared.Estimator.{Estimator}
use Rattle.witness.specs.Answers.{Told, Writing, no_run, a_run, too_far, too_small, looked_for, says, told, WritingIn, CheckingIn}
use Rattle.witness.specs.declared.Run.{Run}
use Rattle.layout.specs.Layout.{header_at, estimator_at, notion_at, run_bytes, valid_bytes}
use Rattle.layout.proofs.Inverse.{run_saved}
use Rattle.gateway.specs.Interface.{WitnessSizes, Witnessing, CheckWitnessSizes, CheckingWitness, valid_said}

module _ (Usable Reach : Type 0) (W : (start : ℕ) → List Step → Type 0) (output : List ℕ) where
  -- a refusal leaves the output
  kept_output : {n : ℕ} {after : List ℕ} → Writing Usable Reach W output (Told.refused n) after → after ≡ output
  kept_output (Writing.malformed bad) = refl
  kept_output (too_far u far) = refl
  kept_output (too_small u r short) = refl
  kept_output (looked_for u r room (no_run never)) = refl

  -- the number of pairs fits its two bytes
  few_pairs : {start pairs : ℕ} {after : List ℕ} → Writing Usable Reach W output (Told.written start pairs) after → pairs ≤ 1086
  few_pairs (looked_for u r room (a_run w few)) = few

module _ (t header : List ℕ) (byte secret k : ℕ) (saved output lent after : List ℕ) (h : Header) (s : Estimator) (notion : Notion) (answer : Result Run Refusal)
    (sizes : WitnessSizes header byte saved lent) (is-header : h ≡ header_at header) (is-estimator : s ≡ estimator_at saved) (is-notion : notion ≡ notion_at byte)
    (did : WritingIn t h s notion secret k output (told answer) after) where
  said_writing : (x : Result Run Refusal) → answer ≡ x
      → WritingIn t (header_at header) (estimator_at saved) (notion_at byte) secret k output (told x) after
  said_writing x is =
      subst (λ (y : Result Run Refusal). WritingIn t (header_at header) (estimator_at saved) (notion_at byte) secret k output (told y) after) is
      (subst (λ (y : Notion). WritingIn t (header_at header) (estimator_at saved) y secret k output (told answer) after) is-notion
      (subst (λ (y : Estimator). WritingIn t (header_at header) y notion secret k output (told answer) after) is-estimator
      (subst (λ (y : Header). WritingIn t y s notion secret k output (told answer) after) is-header did)))

  pub witness_refused : (r : Refusal) (n : ℕ) → answer ≡ Err r → n ≡ number_of r
      → Witnessing t header byte secret k saved output lent n after lent
  witness_refused r n is number =
      let x = said_writing (Err r) is in
      let kept = kept_output _ _ _ output x in
      rw (number, kept) (Witnessing.refused sizes (rw kept at x))

  pub witness_written : (run : Run) (left : List ℕ) → answer ≡ Ok run → left ≡ run_bytes run.start run.pairs
      → Witnessing t header byte secret k saved output lent 0 after left
  witness_written run left is wrote =
      let x = said_writing (Ok run) is in
      let few = few_pairs _ _ _ output x in
      subst (λ (y : List ℕ). Witnessing t header byte secret k saved output lent 0 after y) (sym wrote)
      (Witnessing.written sizes x (run_saved run.start run.pairs (omega arith)))

module _ (t header : List ℕ) (byte secret k start : ℕ) (saved pairs lent : List ℕ) (h : Header) (s : Estimator) (notion : Notion) (answer : Result Bool Refusal)
    (sizes : CheckWitnessSizes header byte saved lent) (is-header : h ≡ header_at header) (is-estimator : s ≡ estimator_at saved)
    (is-notion : notion ≡ notion_at byte) (did : CheckingIn t h s notion secret k start pairs (says answer)) where
  said_checking : (x : Result Bool Refusal) → answer ≡ x → CheckingIn t (header_at header) (estimator_at saved) (notion_at byte) secret k start pairs (says x)
  said_checking x is =
      subst (λ (y : Result Bool Refusal). CheckingIn t (header_at header) (estimator_at saved) (notion_at byte) secret k start pairs (says y)) is
      (subst (λ (y : Notion). CheckingIn t (header_at header) (estimator_at saved) y secret k start pairs (says answer)) is-notion
      (subst (λ (y : Estimator). CheckingIn t (header_at header) y notion secret k start pairs (says answer)) is-estimator
      (subst (λ (y : Header). CheckingIn t y s notion secret k start pairs (says answer)) is-header did)))

  pub check_refused : (r : Refusal) (n : ℕ) → answer ≡ Err r → n ≡ number_of r
      → CheckingWitness t header byte secret k start saved pairs lent n lent
  check_refused r n is number = rw number (CheckingWitness.refused sizes (said_checking (Err r) is))

  check-said : (holds : Bool) (left : List ℕ) → CheckingIn t (header_at header) (estimator_at saved) (notion_at byte) secret k start pairs (valid_said holds)
      → left ≡ valid_bytes holds → CheckingWitness t header byte secret k start saved pairs lent 0 left
  check-said holds left x wrote =
      subst (λ (y : List ℕ). CheckingWitness t header byte secret k start saved pairs lent 0 y) (sym wrote) (CheckingWitness.checked sizes holds x)

  pub check_judged : (holds : Bool) (left : List ℕ) → answer ≡ Ok holds → left ≡ valid_bytes holds
      → CheckingWitness t header byte secret k start saved pairs lent 0 left
  check_judged true left is wrote = check-said true left (said_checking (Ok true) is) wrote
  check_judged false left is wrote = check-said false left (said_checking (Ok false) is) wrote
