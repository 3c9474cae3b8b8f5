-- When each answer comes, what the two entries say together, and the verdicts by witnesses. Assumes nothing.
use mathlib.Core.Path.{◌≡◌, refl, ap, sym, ◌∙◌, subst}
use mathlib.Core.List.{List, [], ◌∷◌, ◌++◌}
use mathlib.Core.Logic.Iff
use mathlib.Core.Logic.{inl, inr, ◌↔◌}
use Prim.Native.Nat.{ℕ, ◌+◌, ◌*◌, ◌-◌, ◌≤◌, ◌<◌}
use native.Mathlib.Omega.{arith}
use native.Mathlib.Decide.{dec_lt}
use lib.ListN.{length, take, drop, length-append, length-drop}
use lib.Seq.{take_at, drop_at}
use Rattle.automaton.specs.Run.{Automaton, automaton_of, Step, WellFormed}
use Rattle.automaton.specs.declared.Header.{Header}
use Rattle.opacity.specs.Verdicts.{Steps, none, leak, Sure, Tells, IsVerdict, Exactly}
use Rattle.opacity.specs.Secrets.{secrets_of, look_back_of}
use Rattle.opacity.specs.declared.Notion.{Notion}
use Rattle.opacity.specs.declared.Secret.{Secret}
use Rattle.opacity.proofs.Exactness.{clear_unsure, exactly}
use Rattle.opacity.proofs.EveryVerdict.{every_verdict, unclear_sure}
use Rattle.opacity.proofs.Numbering.{secret_back}
use Rattle.verifier.specs.Estimators.{GrownOn}
use Rattle.verifier.specs.declared.Estimator.{Estimator}
use Rattle.verifier.proofs.Growing.{grown_limits}
use Rattle.witness.specs.Witnesses.{bytes_of}
use Rattle.witness.specs.Answers.{numbered_secret, InReach, Pairs, Says, Checking, Told, refused, written, Writing}
use Rattle.witness.specs.Answers.{no_run, a_run, too_far, too_small, looked_for}
use Rattle.witness.specs.Answers.{Usable, InReachOf, IsWitness, CheckingIn, WritingIn}
use Rattle.witness.specs.Traces.{SomeWitness, NoWitness, ByWitness, IsWitnessOf, CheckingOf, WritingOf}
use Rattle.witness.specs.Traces.{Wrote, wrote, WrittenRun, ExactWriting, ExactChecking, ByAnswers}
use Rattle.witness.proofs.Moving.{bytes_length}
use Rattle.witness.proofs.WholeTrace.{grown_witness, clear_witness}

-- ---- two answers that differ

not_refused : (start pairs n : ℕ) → written start pairs ≡ refused n → ⊥
not_refused start pairs n e = let z : ◌≡◌ {A = ℕ} 0 1 = cc in absurd (omega arith)

not_wrote : (n : ℕ) (said : Told) → said ≡ refused n → Wrote said → ⊥
not_wrote n said e (wrote {start = a} {pairs = b}) = not_refused a b n e

one_number : (a b : ℕ) → ◌≡◌ {A = Told} (refused a) (refused b) → b ≡ a
one_number a b e = cc

other_number : (a b : ℕ) → (a ≡ b → ⊥) → ◌≡◌ {A = Told} (refused a) (refused b) → ⊥
other_number a b n e = n (cc)

-- ---- the writer

module _ (Usable Reach : Type 0) (W : (start : ℕ) → List Step → Type 0) (output : List ℕ) where
  -- 9 exactly where what is given cannot be used
  pub malformed_exactly : (said : Told) (after : List ℕ) → Writing Usable Reach W output said after → (said ≡ refused 9) ↔ (Usable → ⊥)
  malformed_exactly said after (Writing.malformed bad) = ((λ e. bad), (λ n. refl))
  malformed_exactly said after (too_far u far) = ((λ e. absurd (other_number 17 9 (λ z. omega arith) e)), (λ n. absurd (n u)))
  malformed_exactly said after (too_small u r short) = ((λ e. absurd (other_number 10 9 (λ z. omega arith) e)), (λ n. absurd (n u)))
  malformed_exactly said after (looked_for u r room (no_run never)) = ((λ e. absurd (other_number 16 9 (λ z. omega arith) e)), (λ n. absurd (n u)))
  malformed_exactly said after (looked_for u r room (a_run {start = start} {steps = steps} w few)) =
      ((λ e. absurd (not_refused start (length steps) 9 e)), (λ n. absurd (n u)))

  -- a run that was written stands at the front of the output
  written_run : (start : ℕ) (steps : List Step) → W start steps → length steps ≤ 1086 → 2172 ≤ length output
      → WrittenRun W output start (length steps) (bytes_of steps ++ drop (2 * length steps) output)
  written_run start steps w few room =
      let rest = drop (2 * length steps) output in
      record {
        steps = steps;
        holds = w;
        many = refl;
        few = few;
        front = take_at (bytes_of steps) rest (2 * length steps) (bytes_length steps);
        rest = drop_at (bytes_of steps) rest (2 * length steps) (bytes_length steps);
        size = omega (arith, length-append (bytes_of steps) rest, bytes_length steps, length-drop (2 * length steps) output);
      }

  -- 17 exactly where the secret or the step is not in reach, 10 exactly where it is and the output is small, 16 exactly where there is room and no run,
  -- and a run exactly where there is one
  pub exact_writing : Usable → (said : Told) (after : List ℕ) → Writing Usable Reach W output said after → ExactWriting Reach W output said after
  exact_writing usable said after (Writing.malformed bad) = absurd (bad usable)
  exact_writing usable said after (too_far u out) = record {
    far = ((λ e. out), (λ n. refl));
    small = ((λ e. absurd (other_number 17 10 (λ z. omega arith) e)), (λ x. absurd (out x.0)));
    absent = ((λ e. absurd (other_number 17 16 (λ z. omega arith) e)), (λ x. absurd (out x.0)));
    found = ((λ e. absurd (not_wrote 17 (refused 17) refl e)), (λ x. absurd (out x.0)));
    run = λ start pairs e. absurd (not_refused start pairs 17 (sym e));
    kept = λ n e. refl;
    no_other = λ n e. inl (one_number 17 n e);
  }
  exact_writing usable said after (too_small u r short) = record {
    far = ((λ e. absurd (other_number 10 17 (λ z. omega arith) e)), (λ n. absurd (n r)));
    small = ((λ e. (r, short)), (λ x. refl));
    absent = ((λ e. absurd (other_number 10 16 (λ z. omega arith) e)), (λ x. absurd (omega (arith, x.1))));
    found = ((λ e. absurd (not_wrote 10 (refused 10) refl e)), (λ x. absurd (omega (arith, x.1))));
    run = λ start pairs e. absurd (not_refused start pairs 10 (sym e));
    kept = λ n e. refl;
    no_other = λ n e. inr (inl (one_number 10 n e));
  }
  exact_writing usable said after (looked_for u r room (no_run never)) = record {
    far = ((λ e. absurd (other_number 16 17 (λ z. omega arith) e)), (λ n. absurd (n r)));
    small = ((λ e. absurd (other_number 16 10 (λ z. omega arith) e)), (λ x. absurd (omega (arith, x.1))));
    absent = ((λ e. (r, room, λ x. never x.start x.steps x.holds)), (λ x. refl));
    found = ((λ e. absurd (not_wrote 16 (refused 16) refl e)), (λ x. absurd (never x.2.start x.2.steps x.2.holds)));
    run = λ start pairs e. absurd (not_refused start pairs 16 (sym e));
    kept = λ n e. refl;
    no_other = λ n e. inr (inr (one_number 16 n e));
  }
  exact_writing usable said after (looked_for u r room (a_run {start = start} {steps = steps} w few)) = record {
    far = ((λ e. absurd (not_refused start (length steps) 17 e)), (λ n. absurd (n r)));
    small = ((λ e. absurd (not_refused start (length steps) 10 e)), (λ x. absurd (omega (arith, x.1))));
    absent = ((λ e. absurd (not_refused start (length steps) 16 e)), (λ x. absurd (x.2 (record { start = start; steps = steps; holds = w }))));
    found = ((λ e. (r, room, record { start = start; steps = steps; holds = w })), (λ x. wrote));
    run = λ a b e. same a b e (written_run start steps w few room);
    kept = λ n e. absurd (not_refused start (length steps) n e);
    no_other = λ n e. absurd (not_refused start (length steps) n e);
  }
    where
      same : (a b : ℕ) → written start (length steps) ≡ written a b → WrittenRun W output start (length steps) after → WrittenRun W output a b after
      same a b e x =
          let first : start ≡ a = cc in
          let second : length steps ≡ b = cc in
          subst (λ (n : ℕ). WrittenRun W output a n after) second (subst (λ (n : ℕ). WrittenRun W output n (length steps) after) first x)

-- with equivalent conditions the writer says the same
pub same_writing : (A B R S : Type 0) (W X : (start : ℕ) → List Step → Type 0) (output : List ℕ) → A ↔ B → R ↔ S
    → (R → (start : ℕ) (steps : List Step) → W start steps ↔ X start steps)
    → (said : Told) (after : List ℕ) → Writing A R W output said after → Writing B S X output said after
same_writing A B R S W X output u r w said after (Writing.malformed bad) = Writing.malformed (λ v. bad (u.1 v))
same_writing A B R S W X output u r w said after (too_far v out) = too_far (u.0 v) (λ x. out (r.1 x))
same_writing A B R S W X output u r w said after (too_small v x short) = too_small (u.0 v) (r.0 x) short
same_writing A B R S W X output u r w said after (looked_for v x room (no_run never)) =
    looked_for (u.0 v) (r.0 x) room (no_run (λ start steps y. never start steps ((w x start steps).1 y)))
same_writing A B R S W X output u r w said after (looked_for v x room (a_run {start = start} {steps = steps} y few)) =
    looked_for (u.0 v) (r.0 x) room (a_run ((w x start steps).0 y) few)

-- ---- the checker

-- bytes that are pairs are even in number
pub pairs_even : (W : List Step → Type 0) (bytes : List ℕ) → (x : Pairs W bytes) → length bytes ≡ 2 * length x.steps
pairs_even W bytes x = sym (ap length x.pairs) ∙ bytes_length x.steps

-- and they are the pairs of one list of steps only
pub pairs_one : (a b : List Step) → bytes_of a ≡ bytes_of b → a ≡ b
pairs_one [] [] e = refl
pairs_one [] (s ∷ b) e = let z : ◌≡◌ {A = ℕ} 0 1 = cc in absurd (omega arith)
pairs_one (s ∷ a) [] e = let z : ◌≡◌ {A = ℕ} 0 1 = cc in absurd (omega arith)
pairs_one (s ∷ a) (r ∷ b) e =
    let event : s.event ≡ r.event = cc in
    let to : s.to ≡ r.to = cc in
    let rest : bytes_of a ≡ bytes_of b = cc in
    λ i. record { event = event i; to = to i } ∷ pairs_one a b rest i

yes_no : Says.yes ≡ Says.no → ⊥
yes_no e = let z : ◌≡◌ {A = ℕ} 0 1 = cc in absurd (omega arith)

refused_yes : (n : ℕ) → Says.yes ≡ Says.refused n → ⊥
refused_yes n e = let z : ◌≡◌ {A = ℕ} 0 1 = cc in absurd (omega arith)

refused_no : (n : ℕ) → Says.no ≡ Says.refused n → ⊥
refused_no n e = let z : ◌≡◌ {A = ℕ} 0 1 = cc in absurd (omega arith)

module _ (Usable Reach : Type 0) (W : List Step → Type 0) (bytes : List ℕ) where
  -- 9 exactly where what is given cannot be used
  pub unusable_exactly : (said : Says) → Checking Usable Reach W bytes said → (said ≡ Says.refused 9) ↔ (Usable → ⊥)
  unusable_exactly said (Checking.malformed bad) = ((λ e. bad), (λ n. refl))
  unusable_exactly said (Checking.valid u r x) = ((λ e. absurd (refused_yes 9 e)), (λ n. absurd (n u)))
  unusable_exactly said (Checking.invalid u x) = ((λ e. absurd (refused_no 9 e)), (λ n. absurd (n u)))

  -- yes exactly where the secret and the step are in reach and the bytes are pairs of such steps, else no
  pub exact_checking : Usable → (said : Says) → Checking Usable Reach W bytes said → ExactChecking Reach W bytes said
  exact_checking usable said (Checking.malformed bad) = absurd (bad usable)
  exact_checking usable said (Checking.valid u r x) =
      record {
        valid = ((λ e. (r, x)), (λ y. refl));
        invalid = ((λ e. absurd (yes_no e)), (λ n. absurd (n (r, x))));
        no_refusal = refused_yes;
      }
  exact_checking usable said (Checking.invalid u n) =
      record {
        valid = ((λ e. absurd (yes_no (sym e))), (λ y. absurd (n y)));
        invalid = ((λ e. n), (λ y. refl));
        no_refusal = refused_no;
      }

  -- so an odd length is a no
  pub odd_no : Usable → (said : Says) → Checking Usable Reach W bytes said → (n : ℕ) → length bytes ≡ 2 * n + 1 → said ≡ Says.no
  odd_no usable said c n odd = (exact_checking usable said c).invalid.1 (λ y. omega (arith, pairs_even W bytes y.1))

  -- and so is a secret or a step that is not in reach
  pub far_no : Usable → (said : Says) → Checking Usable Reach W bytes said → (Reach → ⊥) → said ≡ Says.no
  far_no usable said c out = (exact_checking usable said c).invalid.1 (λ y. out y.0)

-- with equivalent conditions the checker says the same
pub same_checking : (A B R S : Type 0) (W X : List Step → Type 0) (bytes : List ℕ) → A ↔ B → R ↔ S → (R → (steps : List Step) → W steps ↔ X steps)
    → (said : Says) → Checking A R W bytes said → Checking B S X bytes said
same_checking A B R S W X bytes u r w said (Checking.malformed bad) = Checking.malformed (λ v. bad (u.1 v))
same_checking A B R S W X bytes u r w said (Checking.valid v x y) =
    Checking.valid (u.0 v) (r.0 x) (record { steps = y.steps; pairs = y.pairs; holds = (w x y.steps).0 y.holds })
same_checking A B R S W X bytes u r w said (Checking.invalid v n) =
    Checking.invalid (u.0 v) (λ z.
    let x = r.1 z.0 in
    n (x, record { steps = z.1.steps; pairs = z.1.pairs; holds = (w x z.1.steps).1 z.1.holds }))

-- a run that was written passes the checker: so for each estimator, grown or not (WritingIn, CheckingIn)
pub written_checked : (Usable Reach : Type 0) (W : (start : ℕ) → List Step → Type 0) (output : List ℕ) (start pairs : ℕ) (after : List ℕ) (said : Says)
    → Writing Usable Reach W output (written start pairs) after → Checking Usable Reach (W start) (take (2 * pairs) after) said → said ≡ Says.yes
written_checked Usable Reach W output start pairs after said w c = go (usable w)
  where
    usable : Writing Usable Reach W output (written start pairs) after → Usable
    usable (looked_for u r room x) = u

    go : Usable → said ≡ Says.yes
    go u =
        let x = exact_writing Usable Reach W output u (written start pairs) after w in
        let run = x.run start pairs refl in
        (exact_checking Usable Reach (W start) (take (2 * pairs) after) u said c).valid.1
        ((x.found.0 wrote).0, record { steps = run.steps; pairs = sym run.front; holds = run.holds })

-- ---- the verdicts by witnesses

module _ (notion : Notion) (p : Automaton) (secret : Secret) (trace : List ℕ) where
  -- where there is a witness nobody is sure
  unsure : (k : ℕ) → k ≤ length trace → SomeWitness notion p secret trace k → Sure notion p secret trace (length trace - k) → ⊥
  unsure k reached w sure =
      clear_unsure notion p secret trace (length trace - k) ((clear_witness p secret trace k reached notion).1 w) sure

  -- and where there is none the reader is sure
  pub sure_no_witness : (k : ℕ) → k ≤ length trace → Sure notion p secret trace (length trace - k) ↔ NoWitness notion p secret trace k
  sure_no_witness k reached = (
    (λ sure w. unsure k reached w sure),
    (λ never. unclear_sure notion p secret trace (length trace - k) (λ x. never ((clear_witness p secret trace k reached notion).0 x))),
  )

  by_witness : (v : Steps) → Tells notion p secret trace v → ByWitness notion p secret trace v
  by_witness none x = λ k within reached. (clear_witness p secret trace k reached notion).0 (x k within reached)
  by_witness (leak l) x = (
    x.within,
    x.reached,
    (λ w. unsure l x.reached w x.sure),
    (λ k less. (clear_witness p secret trace k (omega (arith, x.reached)) notion).0 (x.least k less)),
  )

  one_verdict : (v w : Steps) → Tells notion p secret trace v → ByWitness notion p secret trace w → v ≡ w
  one_verdict none none x y = refl
  one_verdict none (leak m) x y = absurd (y.2 (by_witness none x m y.0 y.1))
  one_verdict (leak l) none x y = absurd (unsure l x.reached (y l x.within x.reached) x.sure)
  one_verdict (leak l) (leak m) x y = ap leak (go (dec_lt l m) (dec_lt m l))
    where
      go : Dec (l < m) → Dec (m < l) → l ≡ m
      go (yes a) b = absurd (unsure l x.reached (y.3 l a) x.sure)
      go (no a) (yes b) = absurd (y.2 ((by_witness (leak l) x).3 m b))
      go (no a) (no b) = omega arith

  -- the verdict is none exactly where there is a witness for every step, leak l exactly where there is none for l and one for every smaller step
  pub verdict_by_witness : (v : Steps) → Tells notion p secret trace v → (w : Steps) → (v ≡ w) ↔ ByWitness notion p secret trace w
  verdict_by_witness v x w = ((λ e. subst (ByWitness notion p secret trace) e (by_witness v x)), (λ y. one_verdict v w x y))

  -- the same of 01's words, whatever the trace
  pub words_by_witness : (w : Steps) → IsVerdict notion p secret trace w ↔ ByWitness notion p secret trace w
  words_by_witness w =
      let v = every_verdict notion p secret trace in
      let e = exactly notion p secret trace v.0 v.1 w in
      Iff.trans (e.1, e.0) (verdict_by_witness v.0 v.1 w)

-- ---- a grown estimator

module _ (t : List ℕ) (h : Header) (trace : List ℕ) (s : Estimator) (sound : WellFormed t h) (g : GrownOn t h trace s) where
  -- it can be used
  usable : Usable t h s ↔ Unit {0}
  usable = ((λ x. tt), (λ x. (sound, grown_limits (automaton_of t h) (look_back_of h s.further) trace s g sound.symbols_small)))

  -- what it remembers goes back as far as the trace and the largest K, which no secret's own K exceeds
  pub within_reach : (number k : ℕ) → InReachOf h s number k ↔ InReach h s.further (length trace) number k
  within_reach number k = (
    (λ r. record { given = r.given; back = r.back; reached = omega (arith, g.count_is, r.reached) }),
    (λ r. record {
      given = r.given;
      back = r.back;
      reached = omega (arith, g.count_is, r.back, r.reached, secret_back h s.further number r.given);
    }),
  )

  same_witness : (notion : Notion) (number k : ℕ) → InReachOf h s number k → (start : ℕ) (steps : List Step)
      → IsWitness t h s notion number k start steps ↔ IsWitnessOf t h s.further trace notion number k start steps
  same_witness notion number k r start steps =
      grown_witness (automaton_of t h) (look_back_of h s.further) trace s g notion (numbered_secret h s.further number).states k r.reached start steps

  -- so what the writer says is said over the trace
  pub grown_writing : (notion : Notion) (number k : ℕ) (output : List ℕ) (said : Told) (after : List ℕ)
      → WritingIn t h s notion number k output said after → WritingOf t h s.further trace notion number k output said after
  grown_writing notion number k output said after x =
      same_writing (Usable t h s) (Unit {0}) (InReachOf h s number k) (InReach h s.further (length trace) number k)
      (IsWitness t h s notion number k) (IsWitnessOf t h s.further trace notion number k) output
      usable (within_reach number k) (same_witness notion number k) said after x

  -- and so is what the checker says
  pub grown_checking : (notion : Notion) (number k start : ℕ) (bytes : List ℕ) (said : Says)
      → CheckingIn t h s notion number k start bytes said → CheckingOf t h s.further trace notion number k start bytes said
  grown_checking notion number k start bytes said x =
      same_checking (Usable t h s) (Unit {0}) (InReachOf h s number k) (InReach h s.further (length trace) number k)
      (IsWitness t h s notion number k start) (IsWitnessOf t h s.further trace notion number k start) bytes
      usable (within_reach number k) (λ r steps. same_witness notion number k r start steps) said x

  -- each answer of the writer exactly when its reason holds over the trace
  pub grown_writing_exactly : (notion : Notion) (number k : ℕ) (output : List ℕ) (said : Told) (after : List ℕ)
      → WritingIn t h s notion number k output said after
      → ExactWriting (InReach h s.further (length trace) number k) (IsWitnessOf t h s.further trace notion number k) output said after
  grown_writing_exactly notion number k output said after x =
      exact_writing (Unit {0}) (InReach h s.further (length trace) number k) (IsWitnessOf t h s.further trace notion number k) output tt said after
      (grown_writing notion number k output said after x)

  -- and each of the checker
  pub grown_checking_exactly : (notion : Notion) (number k start : ℕ) (bytes : List ℕ) (said : Says)
      → CheckingIn t h s notion number k start bytes said
      → ExactChecking (InReach h s.further (length trace) number k) (IsWitnessOf t h s.further trace notion number k start) bytes said
  grown_checking_exactly notion number k start bytes said x =
      exact_checking (Unit {0}) (InReach h s.further (length trace) number k) (IsWitnessOf t h s.further trace notion number k start) bytes tt said
      (grown_checking notion number k start bytes said x)

  -- the verdict on a secret by the answers for each step up to its K, with room
  module _ (notion : Notion) (number : ℕ) (given : number < length (secrets_of h s.further)) (outputs afters : ℕ → List ℕ) (answers : ℕ → Told)
      (room : (k : ℕ) → k ≤ (numbered_secret h s.further number).k → 2172 ≤ length (outputs k))
      (calls : (k : ℕ) → k ≤ (numbered_secret h s.further number).k → WritingIn t h s notion number k (outputs k) (answers k) (afters k)) where
    abbrev pub asked : Secret
    asked = numbered_secret h s.further number

    exact : (k : ℕ) → k ≤ asked.k
        → ExactWriting (InReach h s.further (length trace) number k) (IsWitnessOf t h s.further trace notion number k) (outputs k) (answers k) (afters k)
    exact k within = grown_writing_exactly notion number k (outputs k) (answers k) (afters k) (calls k within)

    wrote_some : (k : ℕ) → k ≤ asked.k → k ≤ length trace → Wrote (answers k) ↔ SomeWitness notion (automaton_of t h) asked trace k
    wrote_some k within reached = (
      (λ x. ((exact k within).found.0 x).2),
      (λ x. (exact k within).found.1 (record { given = given; back = within; reached = reached }, room k within, x)),
    )

    refused_none : (k : ℕ) → k ≤ asked.k → k ≤ length trace → (answers k ≡ refused 16) ↔ NoWitness notion (automaton_of t h) asked trace k
    refused_none k within reached = (
      (λ x. ((exact k within).absent.0 x).2),
      (λ x. (exact k within).absent.1 (record { given = given; back = within; reached = reached }, room k within, x)),
    )

    by_answers : (w : Steps) → ByWitness notion (automaton_of t h) asked trace w ↔ ByAnswers asked.k trace answers w
    by_answers none = (
      (λ y k a b. (wrote_some k a b).1 (y k a b)),
      (λ y k a b. (wrote_some k a b).0 (y k a b)),
    )
    by_answers (leak l) = (
      (λ y. (y.0, y.1, (refused_none l y.0 y.1).1 y.2, λ k less. (wrote_some k (omega (arith, y.0)) (omega (arith, y.1))).1 (y.3 k less))),
      (λ y. (y.0, y.1, (refused_none l y.0 y.1).0 y.2, λ k less. (wrote_some k (omega (arith, y.0)) (omega (arith, y.1))).0 (y.3 k less))),
    )

    -- the verdict is none exactly where it wrote a run for each, leak l exactly where l got 16 and each smaller step a run
    pub verdict_by_answers : (v : Steps) → Tells notion (automaton_of t h) asked trace v → (w : Steps) → (v ≡ w) ↔ ByAnswers asked.k trace answers w
    verdict_by_answers v x w = Iff.trans (verdict_by_witness notion (automaton_of t h) asked trace v x w) (by_answers w)

    -- the same of 01's words
    pub words_by_answers : (w : Steps) → IsVerdict notion (automaton_of t h) asked trace w ↔ ByAnswers asked.k trace answers w
    words_by_answers w = Iff.trans (words_by_witness notion (automaton_of t h) asked trace w) (by_answers w)

    -- and of a verdict that is so exactly when these words say so
    pub exactly_by_answers : (v : Steps) → Exactly notion (automaton_of t h) asked trace v → (w : Steps) → (v ≡ w) ↔ ByAnswers asked.k trace answers w
    exactly_by_answers v x w = Iff.trans (x w) (words_by_answers w)
