-- THE RUN THAT EXCUSES THE SYSTEM (02, S-10): what is promised of what `witness` writes and of what `check_witness` says. FirstPoint has their refusals, of
-- every estimator.
use Rattle.std.specs.Prelude.{◌≡◌, List, [], ◌∷◌, ◌++◌, ◌↔◌, ℕ, ◌+◌, ◌*◌, ◌-◌, ◌≤◌, ◌<◌, length, take}
use Rattle.automaton.specs.Run.{Automaton, automaton_of, Step}
use Rattle.automaton.specs.declared.Header.{Header}
use Rattle.opacity.specs.declared.Notion.{Notion}
use Rattle.opacity.specs.declared.Secret.{Secret}
use Rattle.opacity.specs.declared.Further.{Further}
use Rattle.opacity.specs.Secrets.{secrets_of}
use Rattle.opacity.specs.Verdicts.{Steps, Sure, Clear, IsVerdict}
use Rattle.verifier.specs.declared.Estimator.{Estimator}
use Rattle.verifier.specs.Replies.{Findings, told_at, verdicts, Opening, Accepting}
use Rattle.verifier.specs.Calls.{Call, Calls, accepted_of}
use Rattle.witness.specs.Witnesses.{WitnessOf}
use Rattle.witness.specs.Answers.{numbered_secret, InReach, Says, yes, no, Told, written, Usable, InReachOf, CheckingIn, WritingIn}
use Rattle.witness.specs.Traces.{NoWitness, EndsIn, EndOfClear, ByWitness, ByAnswers, IsWitnessOf, ExactWriting, ExactChecking}

-- "For a watch grown from a fresh one", whatever bytes were offered to it, over the accepted ones and the secrets as they were given: "16 No alibi, exactly
-- when no such run exists; 17 Step too far, for a secret that was not given, or a k above that secret's K or above the accepted events; .. then 10 for an
-- output under 2,172 bytes, and 16 is last". Else such a run, of at most 1,086 pairs, at the front of the output
abbrev pub GrownWriting : Type 0
GrownWriting = (t : List ℕ) (h : Header) (f : Further) (j : Findings) (s : Estimator) (cs : List Call) (e : Estimator) → Opening t h f (verdicts j) s
    → Calls t h s cs e → (notion : Notion) (number k : ℕ) (output : List ℕ) (said : Told) (after : List ℕ)
    → WritingIn t h e notion number k output said after
    → ExactWriting (InReach h f (length (accepted_of cs)) number k) (IsWitnessOf t h f (accepted_of cs) notion number k) output said after

-- the checker "says yes exactly when they are such a run"
abbrev pub GrownChecking : Type 0
GrownChecking = (t : List ℕ) (h : Header) (f : Further) (j : Findings) (s : Estimator) (cs : List Call) (e : Estimator) → Opening t h f (verdicts j) s
    → Calls t h s cs e → (notion : Notion) (number k start : ℕ) (bytes : List ℕ) (said : Says)
    → CheckingIn t h e notion number k start bytes said
    → ExactChecking (InReach h f (length (accepted_of cs)) number k) (IsWitnessOf t h f (accepted_of cs) notion number k start) bytes said

-- "an odd length, or a secret or k that 17 turns away, is a no": of every estimator within its limits
abbrev pub OddIsNo : Type 0
OddIsNo = (t : List ℕ) (h : Header) (s : Estimator) (notion : Notion) (number k start : ℕ) (bytes : List ℕ) (said : Says) → Usable t h s
    → CheckingIn t h s notion number k start bytes said → (n : ℕ) → length bytes ≡ 2 * n + 1 → said ≡ no

abbrev pub FarIsNo : Type 0
FarIsNo = (t : List ℕ) (h : Header) (s : Estimator) (notion : Notion) (number k start : ℕ) (bytes : List ℕ) (said : Says) → Usable t h s
    → CheckingIn t h s notion number k start bytes said → (InReachOf h s number k → ⊥) → said ≡ no

-- what is written passes the checker: of every estimator, so also of one "that did not grow from a fresh one"
abbrev pub WrittenPasses : Type 0
WrittenPasses = (t : List ℕ) (h : Header) (s : Estimator) (notion : Notion) (number k : ℕ) (output : List ℕ) (start pairs : ℕ) (after : List ℕ) (said : Says)
    → WritingIn t h s notion number k output (written start pairs) after → CheckingIn t h s notion number k start (take (2 * pairs) after) said → said ≡ yes

-- the run that excuses the system: over all n events it starts "in the initial state"
abbrev pub FromInitial : Type 0
FromInitial = (notion : Notion) (p : Automaton) (secret : ℕ) (trace : List ℕ) (start : ℕ) (steps : List Step)
    → WitnessOf notion p secret trace (length trace) start steps → start ≡ p.initial

-- over the last k it is the end of a compatible run of the whole trace that excuses the system at n − k, and each such end is one
abbrev pub EndOfRun : Type 0
EndOfRun = (notion : Notion) (p : Automaton) (secret : Secret) (trace : List ℕ) (k : ℕ) → k ≤ length trace → (start : ℕ) (steps : List Step)
    → WitnessOf notion p secret.states trace k start steps ↔ EndOfClear notion p secret trace k start steps

-- each run of the whole trace that excuses the system there has such an end
abbrev pub EveryEnd : Type 0
EveryEnd = (notion : Notion) (p : Automaton) (secret : Secret) (trace : List ℕ) (k : ℕ) → k ≤ length trace
    → (whole : Clear notion p secret trace (length trace - k)) → (start : ℕ) × (steps : List Step) × EndsIn notion p secret trace k start steps whole

-- so there is none exactly where the reader is sure
abbrev pub NoneWhereSure : Type 0
NoneWhereSure = (notion : Notion) (p : Automaton) (secret : Secret) (trace : List ℕ) (k : ℕ) → k ≤ length trace
    → Sure notion p secret trace (length trace - k) ↔ NoWitness notion p secret trace k

-- the verdict is none exactly where there is one for each step up to K and the trace, leak l exactly where there is none for l and one for each smaller step
abbrev pub VerdictByWitness : Type 0
VerdictByWitness = (notion : Notion) (p : Automaton) (secret : Secret) (trace : List ℕ) (w : Steps)
    → IsVerdict notion p secret trace w ↔ ByWitness notion p secret trace w

-- and by the answers of `witness`, asked for each step up to K with an output that is large enough: none where it wrote a run for each, leak l where l got 16
-- and each smaller step a run
abbrev pub VerdictByAnswers : Type 0
VerdictByAnswers = (t : List ℕ) (h : Header) (f : Further) (j : Findings) (s : Estimator) (cs : List Call) (e : Estimator) → Opening t h f (verdicts j) s
    → Calls t h s cs e → (notion : Notion) (number : ℕ) → number < length (secrets_of h f) → (outputs afters : ℕ → List ℕ) (answers : ℕ → Told)
    → ((k : ℕ) → k ≤ (numbered_secret h f number).k → 2172 ≤ length (outputs k))
    → ((k : ℕ) → k ≤ (numbered_secret h f number).k → WritingIn t h e notion number k (outputs k) (answers k) (afters k))
    → (w : Steps) → IsVerdict notion (automaton_of t h) (numbered_secret h f number) (accepted_of cs) w
    ↔ ByAnswers (numbered_secret h f number).k (accepted_of cs) answers w

-- "An engineer who sees \"none\" wants the run that excuses the chamber": what the verifier tells of an accepted byte is none exactly where `witness` then
-- writes a run for each step, and leak l exactly where it refuses l by 16 and writes a run for each smaller step
abbrev pub ToldByAnswers : Type 0
ToldByAnswers = (t : List ℕ) (h : Header) (f : Further) (j : Findings) (s : Estimator) (cs : List Call) (e : Estimator) → Opening t h f (verdicts j) s
    → Calls t h s cs e → (byte : ℕ) (told : Findings) (m : Estimator) → Accepting t h e byte (verdicts told) m → (notion : Notion) (number : ℕ)
    → number < length (secrets_of h f) → (outputs afters : ℕ → List ℕ) (answers : ℕ → Told)
    → ((k : ℕ) → k ≤ (numbered_secret h f number).k → 2172 ≤ length (outputs k))
    → ((k : ℕ) → k ≤ (numbered_secret h f number).k → WritingIn t h m notion number k (outputs k) (answers k) (afters k))
    → (w : Steps) → (told_at notion told.each number ≡ w) ↔ ByAnswers (numbered_secret h f number).k (accepted_of cs ++ byte ∷ []) answers w

-- so of what is told of the opening, before any byte
abbrev pub OpeningByAnswers : Type 0
OpeningByAnswers = (t : List ℕ) (h : Header) (f : Further) (j : Findings) (s : Estimator) → Opening t h f (verdicts j) s → (notion : Notion) (number : ℕ)
    → number < length (secrets_of h f) → (outputs afters : ℕ → List ℕ) (answers : ℕ → Told)
    → ((k : ℕ) → k ≤ (numbered_secret h f number).k → 2172 ≤ length (outputs k))
    → ((k : ℕ) → k ≤ (numbered_secret h f number).k → WritingIn t h s notion number k (outputs k) (answers k) (afters k))
    → (w : Steps) → (told_at notion j.each number ≡ w) ↔ ByAnswers (numbered_secret h f number).k [] answers w
