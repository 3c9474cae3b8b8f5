-- What the answers say after a fresh estimator and a list of calls, refused ones among them: over the bytes that were accepted, with the further secrets
-- as they were given. Assumes nothing.
use mathlib.Core.Path.{◌≡◌, ap, sym, ◌∙◌, subst}
use mathlib.Core.List.{List, [], ◌∷◌, ◌++◌, append_assoc, append-nil}
use mathlib.Core.Logic.Iff
use mathlib.Core.Logic.{◌↔◌}
use Prim.Native.Nat.{ℕ, ◌≤◌, ◌<◌}
use lib.ListN.{length}
use Rattle.automaton.specs.Run.{automaton_of, Step, WellFormed}
use Rattle.automaton.specs.declared.Header.{Header}
use Rattle.opacity.specs.Secrets.{secrets_of, secret_at, cleared_of}
use Rattle.opacity.specs.Verdicts.{Steps, IsVerdict}
use Rattle.opacity.specs.declared.Notion.{Notion}
use Rattle.opacity.specs.declared.Secret.{Secret}
use Rattle.opacity.specs.declared.Further.{Further}
use Rattle.opacity.proofs.Numbering.{same_secrets}
use Rattle.lists.specs.Calls.{done, next, end, more}
use Rattle.lists.proofs.Chains.{chain_append, joined_append}
use Rattle.verifier.specs.Replies.{Findings, told_at, verdicts, Opening, opened, Accepting}
use Rattle.verifier.specs.Calls.{Call, Calls, taken_of, accepted_of, Answered, AllAnswered, VerifierPromise}
use Rattle.verifier.specs.Estimators.{GrownOn}
use Rattle.verifier.specs.declared.Estimator.{Estimator}
use Rattle.verifier.proofs.SecondPoint.{second_point}
use Rattle.witness.specs.Witnesses.{WitnessOf}
use Rattle.witness.specs.Answers.{numbered_secret, InReach, Says, Told, CheckingIn, WritingIn}
use Rattle.witness.specs.Traces.{IsWitnessOf, CheckingOf, WritingOf, ExactWriting, ExactChecking, ByAnswers}
use Rattle.witness.proofs.Answering.{same_writing, same_checking, exact_writing, exact_checking, grown_writing, grown_checking, words_by_answers}

-- with the same secrets, the same is in reach, and the same runs are witnesses
module _ (h : Header) (f g : Further) (same : secrets_of h f ≡ secrets_of h g) where
  same_numbered : (number : ℕ) → numbered_secret h f number ≡ numbered_secret h g number
  same_numbered number = ap (λ (cs : List Secret). secret_at cs number) same

  reach_to : (n number k : ℕ) → InReach h f n number k → InReach h g n number k
  reach_to n number k r =
      record {
        given = subst (λ (cs : List Secret). number < length cs) same r.given;
        back = subst (λ (c : Secret). k ≤ c.k) (same_numbered number) r.back;
        reached = r.reached;
      }

  witness_to : (t trace : List ℕ) (notion : Notion) (number k start : ℕ) (steps : List Step) → IsWitnessOf t h f trace notion number k start steps
      → IsWitnessOf t h g trace notion number k start steps
  witness_to t trace notion number k start steps w =
      subst (λ (c : Secret). WitnessOf notion (automaton_of t h) c.states trace k start steps) (same_numbered number) w

-- of a grown estimator that keeps further secrets, both answer over the trace and by the secrets as they were given
module _ (t : List ℕ) (h : Header) (f : Further) (trace : List ℕ) (e : Estimator) (sound : WellFormed t h) (kept : e.further ≡ cleared_of f)
    (grown : GrownOn t h trace e) where
  same : secrets_of h e.further ≡ secrets_of h f
  same = ap (secrets_of h) kept ∙ same_secrets h f

  module _ (notion : Notion) (number k : ℕ) where
    in_reach : InReach h e.further (length trace) number k ↔ InReach h f (length trace) number k
    in_reach = (reach_to h e.further f same _ number k, reach_to h f e.further (sym same) _ number k)

    witnesses : (start : ℕ) (steps : List Step)
        → IsWitnessOf t h e.further trace notion number k start steps ↔ IsWitnessOf t h f trace notion number k start steps
    witnesses start steps = (
      witness_to h e.further f same t trace notion number k start steps,
      witness_to h f e.further (sym same) t trace notion number k start steps,
    )

    pub given_writing : (output : List ℕ) (said : Told) (after : List ℕ) → WritingIn t h e notion number k output said after
        → WritingOf t h f trace notion number k output said after
    given_writing output said after x =
        same_writing _ _ _ _ _ _ output ((λ u. u), (λ u. u)) in_reach (λ r. witnesses) said after
        (grown_writing t h trace e sound grown notion number k output said after x)

    pub given_checking : (start : ℕ) (bytes : List ℕ) (said : Says) → CheckingIn t h e notion number k start bytes said
        → CheckingOf t h f trace notion number k start bytes said
    given_checking start bytes said x =
        same_checking _ _ _ _ _ _ bytes ((λ u. u), (λ u. u)) in_reach (λ r. witnesses start) said
        (grown_checking t h trace e sound grown notion number k start bytes said x)

module _ (t : List ℕ) (h : Header) (f : Further) (j : Findings) (s : Estimator) (cs : List Call) (e : Estimator) (fresh : Opening t h f (verdicts j) s)
    (calls : Calls t h s cs e) where
  sound : Opening t h f (verdicts j) s → WellFormed t h
  sound (opened well_formed allowed same limits as_many within x) = well_formed

  promise : VerifierPromise t h f j cs e
  promise = second_point t h f j s cs e fresh calls

  -- each answer of the writer exactly when its reason holds over the accepted bytes
  pub called_writing : (notion : Notion) (number k : ℕ) (output : List ℕ) (said : Told) (after : List ℕ) → WritingIn t h e notion number k output said after
      → ExactWriting (InReach h f (length (accepted_of cs)) number k) (IsWitnessOf t h f (accepted_of cs) notion number k) output said after
  called_writing notion number k output said after x =
      exact_writing (Unit {0}) _ _ output tt said after
      (given_writing t h f (accepted_of cs) e (sound fresh) promise.same promise.grown notion number k output said after x)

  -- and each of the checker
  pub called_checking : (notion : Notion) (number k start : ℕ) (bytes : List ℕ) (said : Says) → CheckingIn t h e notion number k start bytes said
      → ExactChecking (InReach h f (length (accepted_of cs)) number k) (IsWitnessOf t h f (accepted_of cs) notion number k start) bytes said
  called_checking notion number k start bytes said x =
      exact_checking (Unit {0}) _ _ bytes tt said
      (given_checking t h f (accepted_of cs) e (sound fresh) promise.same promise.grown notion number k start bytes said x)

  -- the verdict on a secret by the writer's answers for each step up to its K, with room
  pub called_verdict : (notion : Notion) (number : ℕ) → number < length (secrets_of h f) → (outputs afters : ℕ → List ℕ) (answers : ℕ → Told)
      → ((k : ℕ) → k ≤ (numbered_secret h f number).k → 2172 ≤ length (outputs k))
      → ((k : ℕ) → k ≤ (numbered_secret h f number).k → WritingIn t h e notion number k (outputs k) (answers k) (afters k))
      → (w : Steps) → IsVerdict notion (automaton_of t h) (numbered_secret h f number) (accepted_of cs) w
      ↔ ByAnswers (numbered_secret h f number).k (accepted_of cs) answers w
  called_verdict notion number given outputs afters answers room asked w =
      let kept = same t h f (accepted_of cs) e (sound fresh) promise.same promise.grown in
      let q = same_numbered h e.further f kept number in
      subst (λ (c : Secret). IsVerdict notion (automaton_of t h) c (accepted_of cs) w ↔ ByAnswers c.k (accepted_of cs) answers w) q
      (words_by_answers t h (accepted_of cs) e (sound fresh) promise.grown notion number
      (subst (λ (ds : List Secret). number < length ds) (sym kept) given) outputs afters answers
      (λ k l. room k (subst (λ (c : Secret). k ≤ c.k) q l)) (λ k l. asked k (subst (λ (c : Secret). k ≤ c.k) q l)) w)

-- the last of the calls, judged with the bytes accepted before it
last_answered : (t : List ℕ) (h : Header) (f : Further) (trace : List ℕ) (cs : List Call) (c : Call) → AllAnswered t h f trace (cs ++ c ∷ [])
    → Answered t h f (trace ++ accepted_of cs) c.byte c.says
last_answered t h f trace [] c (more x end) = subst (λ (l : List ℕ). Answered t h f l c.byte c.says) (sym (append-nil trace)) x
last_answered t h f trace (d ∷ cs) c (more x y) =
    subst (λ (l : List ℕ). Answered t h f l c.byte c.says) (append_assoc trace (taken_of d) (accepted_of cs))
    (last_answered t h f (trace ++ taken_of d) cs c y)

-- so what the engineer is told of the last byte that was accepted is the verdict by these answers
module _ (t : List ℕ) (h : Header) (f : Further) (j : Findings) (s : Estimator) (cs : List Call) (e : Estimator) (fresh : Opening t h f (verdicts j) s)
    (calls : Calls t h s cs e) (byte : ℕ) (told : Findings) (m : Estimator) (accepts : Accepting t h e byte (verdicts told) m) where
  abbrev last : Call
  last = record { byte = byte; says = verdicts told }

  all : Calls t h s (cs ++ last ∷ []) m
  all = chain_append calls (next accepts done)

  trace_is : accepted_of (cs ++ last ∷ []) ≡ accepted_of cs ++ byte ∷ []
  trace_is = joined_append taken_of cs (last ∷ [])

  pub called_told : (notion : Notion) (number : ℕ) → number < length (secrets_of h f) → (outputs afters : ℕ → List ℕ) (answers : ℕ → Told)
      → ((k : ℕ) → k ≤ (numbered_secret h f number).k → 2172 ≤ length (outputs k))
      → ((k : ℕ) → k ≤ (numbered_secret h f number).k → WritingIn t h m notion number k (outputs k) (answers k) (afters k))
      → (w : Steps) → (told_at notion told.each number ≡ w) ↔ ByAnswers (numbered_secret h f number).k (accepted_of cs ++ byte ∷ []) answers w
  called_told notion number given outputs afters answers room asked w =
      let a = last_answered t h f [] cs last (second_point t h f j s (cs ++ last ∷ []) m fresh all).answered in
      Iff.trans (a.2.each notion number given w)
      (subst (λ (trace : List ℕ). IsVerdict notion (automaton_of t h) (numbered_secret h f number) trace w ↔ ByAnswers (numbered_secret h f number).k trace
      answers w)
      trace_is (called_verdict t h f j s (cs ++ last ∷ []) m fresh all notion number given outputs afters answers room asked w))

-- and what it is told of the opening
pub opening_told : (t : List ℕ) (h : Header) (f : Further) (j : Findings) (s : Estimator) → Opening t h f (verdicts j) s → (notion : Notion) (number : ℕ)
    → number < length (secrets_of h f) → (outputs afters : ℕ → List ℕ) (answers : ℕ → Told)
    → ((k : ℕ) → k ≤ (numbered_secret h f number).k → 2172 ≤ length (outputs k))
    → ((k : ℕ) → k ≤ (numbered_secret h f number).k → WritingIn t h s notion number k (outputs k) (answers k) (afters k))
    → (w : Steps) → (told_at notion j.each number ≡ w) ↔ ByAnswers (numbered_secret h f number).k [] answers w
opening_told t h f j s fresh notion number given outputs afters answers room asked w =
    Iff.trans ((second_point t h f j s [] s fresh done).opening.each notion number given w)
    (called_verdict t h f j s [] s fresh done notion number given outputs afters answers room asked w)
