-- What the functions of witnesses say of a gateway that keeps bytes: over the trace that calls of accept led the saved estimator to, and of what was written
-- that it passes the checker. Assumes nothing.
use Prim.Native.Nat.{ℕ, zero, suc, ◌*◌, ◌≤◌}
use mathlib.Core.Path.{◌≡◌, refl, ap₂, sym, subst}
use mathlib.Core.Bool.{Bool, true, false}
use mathlib.Core.List.{List}
use native.Mathlib.Omega.{arith}
use lib.ListN.{length, take}
use Rattle.lists.specs.Calls.{done, next}
use Rattle.automaton.specs.Run.{Step, WellFormed}
use Rattle.automaton.specs.declared.Header.{Header}
use Rattle.opacity.specs.Secrets.{cleared_of}
use Rattle.opacity.specs.declared.Further.{Further}
use Rattle.verifier.specs.Replies.{Opening}
use Rattle.verifier.specs.Calls.{accepted_of}
use Rattle.verifier.specs.Estimators.{GrownOn}
use Rattle.witness.specs.Answers.{Told, Says, Writing, no_run, too_far, too_small, looked_for, Checking, WritingIn, CheckingIn}
use Rattle.witness.specs.Traces.{WritingOf, CheckingOf}
use Rattle.witness.proofs.Answering.{written_checked}
use Rattle.witness.proofs.Calling.{given_writing, given_checking}
use Rattle.layout.specs.Sizes.{header_size, estimator_size, strong_byte, run_size, valid_size}
use Rattle.layout.specs.Layout.{header_at, further_at, estimator_at, notion_at, start_at, pairs_at, valid_at}
use Rattle.layout.proofs.Inverse.{valid_back}
use Rattle.gateway.specs.Interface.{Fresh, Accept, WitnessSizes, Witnessing, CheckWitnessSizes, CheckingWitness, valid_said}
use Rattle.gateway.specs.SavedCalls.{AcceptCall, AcceptCalls, calls_of, witness_said, check_said}
use Rattle.gateway.proofs.SavedPoints.{saved_second_point}

-- ---- what is read is what was said: a refusal has no number 0

module _ (Usable Reach : Type 0) (W : (start : ℕ) → List Step → Type 0) (output : List ℕ) where
  refused_writing : {n : ℕ} {after : List ℕ} (run : List ℕ) → Writing Usable Reach W output (Told.refused n) after
      → Writing Usable Reach W output (witness_said n run) after
  refused_writing run (Writing.malformed bad) = Writing.malformed bad
  refused_writing run (too_far u far) = too_far u far
  refused_writing run (too_small u r short) = too_small u r short
  refused_writing run (looked_for u r room (no_run never)) = looked_for u r room (no_run never)

refused_checking : (Usable Reach : Type 0) (W : List Step → Type 0) (bytes : List ℕ) {n : ℕ} (valid : List ℕ)
    → Checking Usable Reach W bytes (Says.refused n) → Checking Usable Reach W bytes (check_said n valid)
refused_checking Usable Reach W bytes valid (Checking.malformed bad) = Checking.malformed bad

-- so with slices of their lengths and a notion each call says what `witness` does, of the estimator that the bytes hold
pub witness-said : (t header : List ℕ) (notion secret k : ℕ) (estimator output run : List ℕ) (answer : ℕ) (after out : List ℕ)
    → WitnessSizes header notion estimator run → Witnessing t header notion secret k estimator output run answer after out
    → WritingIn t (header_at header) (estimator_at estimator) (notion_at notion) secret k output (witness_said answer out) after
witness-said t header notion secret k estimator output run answer after out sizes (Witnessing.size bad) = absurd (bad sizes)
witness-said t header notion secret k estimator output run answer after out sizes (Witnessing.refused _ x) = refused_writing _ _ _ output out x
witness-said t header notion secret k estimator output run answer after out sizes (Witnessing.written _ {start = start} {pairs = pairs} x saved) =
    let same : Told.written start pairs ≡ witness_said 0 out = ap₂ Told.written (sym saved.start_back) (sym saved.pairs_back) in
    subst (λ (said : Told). WritingIn t (header_at header) (estimator_at estimator) (notion_at notion) secret k output said after) same x

pub check-said : (t header : List ℕ) (notion secret k start : ℕ) (estimator pairs valid : List ℕ) (answer : ℕ) (out : List ℕ)
    → CheckWitnessSizes header notion estimator valid → CheckingWitness t header notion secret k start estimator pairs valid answer out
    → CheckingIn t (header_at header) (estimator_at estimator) (notion_at notion) secret k start pairs (check_said answer out)
check-said t header notion secret k start estimator pairs valid answer out sizes (CheckingWitness.size bad) = absurd (bad sizes)
check-said t header notion secret k start estimator pairs valid answer out sizes (CheckingWitness.refused _ x) = refused_checking _ _ _ pairs out x
check-said t header notion secret k start estimator pairs valid answer out sizes (CheckingWitness.checked _ holds x) =
    subst (λ (b : Bool). CheckingIn t (header_at header) (estimator_at estimator) (notion_at notion) secret k start pairs (valid_said b))
    (sym (valid_back holds)) x

-- ---- the bytes after a fresh call that answered 0 and calls of accept

one_size : (t header : List ℕ) (symbol : ℕ) (s lent : List ℕ) (answer : ℕ) (m told : List ℕ) → Accept t header symbol s lent answer m told
    → length s ≡ estimator_size → length m ≡ estimator_size
one_size t header symbol s lent answer m told (Accept.size bad) e = e
one_size t header symbol s lent answer m told (Accept.refused sizes x) e = e
one_size t header symbol s lent answer m told (Accept.accepted sizes x saved) e = saved.size

calls_size : (t header s : List ℕ) (cs : List AcceptCall) (e : List ℕ) → AcceptCalls t header s cs e → length s ≡ estimator_size → length e ≡ estimator_size
calls_size t header s cs e done size = size
calls_size t header s cs e (next {m = m} {c = c} {cs = rest} a f) size =
    calls_size t header m rest e f (one_size t header c.symbol s c.lent c.answer m c.told a size)

-- the header has its length, and with the table it is an automaton
header-size : (t header further before lent s told : List ℕ) → Fresh t header further before lent 0 s told → length header ≡ header_size
header-size t header further before lent _ _ (Fresh.refused _ x7) = elim x7 [ ]
header-size t header further before lent s told (Fresh.accepted sizes x saved) = sizes.verifier.header-size

well_formed : (t header further before lent s told : List ℕ) → Fresh t header further before lent 0 s told → WellFormed t (header_at header)
well_formed t header further before lent _ _ (Fresh.refused _ x7) = elim x7 [ ]
well_formed t header further before lent s told (Fresh.accepted sizes (Opening.opened so allowed keeps li many within exact) saved) = so

-- the estimator's bytes have theirs
fresh_size : (t header further before lent s told : List ℕ) → Fresh t header further before lent 0 s told → length s ≡ estimator_size
fresh_size t header further before lent _ _ (Fresh.refused _ x7) = elim x7 [ ]
fresh_size t header further before lent s told (Fresh.accepted sizes x saved) = saved.size

module _ (t header further before lent s told : List ℕ) (cs : List AcceptCall) (e : List ℕ) (fresh : Fresh t header further before lent 0 s told)
    (calls : AcceptCalls t header s cs e) where
  abbrev h : Header
  h = header_at header

  abbrev f : Further
  f = further_at further 0

  -- the trace: the symbols that were accepted
  abbrev pub trace : List ℕ
  trace = accepted_of (calls_of f.count cs)

  kept_size : length e ≡ estimator_size
  kept_size = calls_size t header s cs e calls (fresh_size t header further before lent s told fresh)

  -- they hold the estimator of the trace, with the secrets that were given
  kept : (estimator_at e).further ≡ cleared_of f
  kept = (saved_second_point t header further before lent s told cs e fresh calls).same

  grown : GrownOn t h trace (estimator_at e)
  grown = (saved_second_point t header further before lent s told cs e fresh calls).grown

  -- WHAT WITNESS ANSWERS AND WRITES, OVER THE TRACE: 17 exactly for a secret or a step out of reach, then 10 for a small output, then 16 exactly where there is
  -- no run, and else a run
  pub saved_witness : (notion secret k : ℕ) (output run : List ℕ) (answer : ℕ) (after out : List ℕ) → notion ≤ strong_byte → length run ≡ run_size
      → Witnessing t header notion secret k e output run answer after out
      → WritingOf t h f trace (notion_at notion) secret k output (witness_said answer out) after
  saved_witness notion secret k output run answer after out known size x =
      let sizes : WitnessSizes header notion e run =
      record { header-size = header-size t header further before lent s told fresh; notion_known = known; estimator-size = kept_size; run-size = size } in
      let said = witness-said t header notion secret k e output run answer after out sizes x in
      given_writing t h f trace (estimator_at e) (well_formed t header further before lent s told fresh) kept grown (notion_at notion) secret k output
      (witness_said answer out) after said

  -- WHAT CHECK_WITNESS SAYS, OVER THE TRACE: yes exactly where the secret and the step are in reach and the bytes are such a run
  pub saved_check : (notion secret k start : ℕ) (pairs valid : List ℕ) (answer : ℕ) (out : List ℕ) → notion ≤ strong_byte → length valid ≡ valid_size
      → CheckingWitness t header notion secret k start e pairs valid answer out
      → CheckingOf t h f trace (notion_at notion) secret k start pairs (check_said answer out)
  saved_check notion secret k start pairs valid answer out known size x =
      let sizes : CheckWitnessSizes header notion e valid =
      record { header-size = header-size t header further before lent s told fresh; notion_known = known; estimator-size = kept_size; valid-size = size } in
      let said = check-said t header notion secret k start e pairs valid answer out sizes x in
      given_checking t h f trace (estimator_at e) (well_formed t header further before lent s told fresh) kept grown (notion_at notion) secret k start pairs
      (check_said answer out) said

-- ---- WHAT WAS WRITTEN PASSES THE CHECKER, of any saved estimator, grown or not

said_valid : (holds : Bool) → valid_said holds ≡ Says.yes → holds ≡ true
said_valid true e = refl
said_valid false e = let z : ◌≡◌ {A = ℕ} 0 1 = cc in absurd (omega arith)

yes_valid : (answer : ℕ) (out : List ℕ) → check_said answer out ≡ Says.yes → (answer ≡ 0) × (valid_at out ≡ true)
yes_valid zero out e = (refl, said_valid (valid_at out) e)
yes_valid (suc n) out e = let z : ◌≡◌ {A = ℕ} 0 1 = cc in absurd (omega arith)

run_sizes : (t header : List ℕ) (notion secret k : ℕ) (estimator output run after out : List ℕ)
    → Witnessing t header notion secret k estimator output run 0 after out → WitnessSizes header notion estimator run
run_sizes t header notion secret k estimator output run after out (Witnessing.refused sizes x) = sizes
run_sizes t header notion secret k estimator output run after out (Witnessing.written sizes x saved) = sizes

pub written_passes : (t header : List ℕ) (notion secret k : ℕ) (estimator output run after out valid : List ℕ) (answer : ℕ) (left : List ℕ)
    → Witnessing t header notion secret k estimator output run 0 after out → length valid ≡ valid_size
    → CheckingWitness t header notion secret k (start_at out) estimator (take (2 * pairs_at out) after) valid answer left
    → (answer ≡ 0) × (valid_at left ≡ true)
written_passes t header notion secret k estimator output run after out valid answer left x size y =
    let sizes = run_sizes t header notion secret k estimator output run after out x in
    let w = witness-said t header notion secret k estimator output run 0 after out sizes x in
    let c = check-said t header notion secret k (start_at out) estimator (take (2 * pairs_at out) after) valid answer left
    (record { header-size = sizes.header-size; notion_known = sizes.notion_known; estimator-size = sizes.estimator-size; valid-size = size }) y in
    yes_valid answer left (written_checked _ _ _ output (start_at out) (pairs_at out) after (check_said answer left) w c)

-- ---- WHAT THE BYTES HOLD WHERE THE ANSWER IS 0

pub witness_back : (t header : List ℕ) (notion secret k : ℕ) (estimator output run after out : List ℕ)
    → Witnessing t header notion secret k estimator output run 0 after out
    → WritingIn t (header_at header) (estimator_at estimator) (notion_at notion) secret k output (Told.written (start_at out) (pairs_at out)) after
witness_back t header notion secret k estimator output run after out x =
    witness-said t header notion secret k estimator output run 0 after out (run_sizes t header notion secret k estimator output run after out x) x

checked_sizes : (t header : List ℕ) (notion secret k start : ℕ) (estimator pairs valid out : List ℕ)
    → CheckingWitness t header notion secret k start estimator pairs valid 0 out → CheckWitnessSizes header notion estimator valid
checked_sizes t header notion secret k start estimator pairs valid out (CheckingWitness.refused sizes x) = sizes
checked_sizes t header notion secret k start estimator pairs valid out (CheckingWitness.checked sizes holds x) = sizes

pub check_back : (t header : List ℕ) (notion secret k start : ℕ) (estimator pairs valid out : List ℕ)
    → CheckingWitness t header notion secret k start estimator pairs valid 0 out
    → CheckingIn t (header_at header) (estimator_at estimator) (notion_at notion) secret k start pairs (check_said 0 out)
check_back t header notion secret k start estimator pairs valid out x =
    check-said t header notion secret k start estimator pairs valid 0 out (checked_sizes t header notion secret k start estimator pairs valid out x) x
