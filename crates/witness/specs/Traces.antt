-- What the answers say of a grown estimator, over runs of its whole trace.
use Rattle.std.specs.Prelude.{◌≡◌, List, ◌++◌, ◌⊎◌, ◌↔◌, ℕ, ◌*◌, ◌≤◌, ◌<◌, ◌-◌, length, take, drop}
use Rattle.automaton.specs.Run.{Automaton, automaton_of, Step, end_of, shown}
use Rattle.automaton.specs.Reaching.{Landed}
use Rattle.automaton.specs.declared.Header.{Header}
use Rattle.opacity.specs.Verdicts.{Steps, none, leak, Clear}
use Rattle.opacity.specs.declared.Notion.{Notion}
use Rattle.opacity.specs.declared.Notion.TheVariants.{Weak, Strong}
use Rattle.opacity.specs.declared.Secret.{Secret}
use Rattle.opacity.specs.declared.Further.{Further}
use Rattle.witness.specs.Witnesses.{WitnessOf, bytes_of}
use Rattle.witness.specs.Answers.{InReach, numbered_secret, Pairs, Says, yes, no, Checking, Told, refused, written, Writing}

-- some start and steps of which W holds
pub record SomeRun (W : (start : ℕ) → List Step → Type 0) : Type 0 where
  pub start : ℕ
  pub steps : List Step
  pub holds : W start steps

-- there is a run over the last k symbols of the trace that excuses the system; there is none
abbrev pub SomeWitness : Notion → Automaton → Secret → List ℕ → (k : ℕ) → Type 0
SomeWitness notion p secret trace k = SomeRun (WitnessOf notion p secret.states trace k)

abbrev pub NoWitness : Notion → Automaton → Secret → List ℕ → (k : ℕ) → Type 0
NoWitness notion p secret trace k = SomeWitness notion p secret trace k → ⊥

-- the run of the whole trace that excuses the system at a count
abbrev pub run_of : (notion : Notion) (p : Automaton) (secret : Secret) (trace : List ℕ) (j : ℕ) → Clear notion p secret trace j → List Step
run_of Weak p secret trace j x = x.run
run_of Strong p secret trace j x = x.run

-- the steps are the end of such a run: before them it shows the other symbols, and no unobservable step is between
pub record EndsIn (notion : Notion) (p : Automaton) (secret : Secret) (trace : List ℕ) (k start : ℕ) (steps : List Step)
    (whole : Clear notion p secret trace (length trace - k)) : Type 0 where
  pub front : List Step
  pub joins : front ++ steps ≡ run_of notion p secret trace (length trace - k) whole
  pub shown_is : shown p front ≡ take (length trace - k) trace
  pub landed : Landed p front
  pub starts : end_of p.initial front ≡ start

-- the end of some run of the whole trace that excuses the system at n − k
pub record EndOfClear (notion : Notion) (p : Automaton) (secret : Secret) (trace : List ℕ) (k start : ℕ) (steps : List Step) : Type 0 where
  pub whole : Clear notion p secret trace (length trace - k)
  pub ends : EndsIn notion p secret trace k start steps whole

-- the verdict none: a witness for every k up to K and the trace; leak l: none for l, and one for every smaller k
abbrev pub ByWitness : Notion → Automaton → Secret → List ℕ → Steps → Type 0
ByWitness notion p secret trace none = (k : ℕ) → k ≤ secret.k → k ≤ length trace → SomeWitness notion p secret trace k
ByWitness notion p secret trace (leak l) =
    (l ≤ secret.k) × (l ≤ length trace) × NoWitness notion p secret trace l × ((k : ℕ) → k < l → SomeWitness notion p secret trace k)

-- ---- the answers, of an estimator that the trace led to: 9 is not among them, and the symbols that count are all of the trace

abbrev pub IsWitnessOf : List ℕ → Header → Further → List ℕ → Notion → (number k start : ℕ) → List Step → Type 0
IsWitnessOf t h f trace notion number k start steps = WitnessOf notion (automaton_of t h) (numbered_secret h f number).states trace k start steps

abbrev pub CheckingOf : List ℕ → Header → Further → List ℕ → Notion → (number k start : ℕ) → (bytes : List ℕ) → Says → Type 0
CheckingOf t h f trace notion number k start bytes said =
    Checking (Unit {0}) (InReach h f (length trace) number k) (IsWitnessOf t h f trace notion number k start) bytes said

abbrev pub WritingOf : List ℕ → Header → Further → List ℕ → Notion → (number k : ℕ) → (output : List ℕ) → Told → List ℕ → Type 0
WritingOf t h f trace notion number k output said after =
    Writing (Unit {0}) (InReach h f (length trace) number k) (IsWitnessOf t h f trace notion number k) output said after

-- ---- when each answer comes

-- a run was written
pub data Wrote : Told → Type 0 where
  wrote : {start pairs : ℕ} → Wrote (written start pairs)

-- the pairs at the front of the output are steps of which W holds, 1,086 at most, and the rest of the output is kept
pub record WrittenRun (W : (start : ℕ) → List Step → Type 0) (output : List ℕ) (start pairs : ℕ) (after : List ℕ) : Type 0 where
  pub steps : List Step
  pub holds : W start steps
  pub many : length steps ≡ pairs
  pub few : pairs ≤ 1086
  pub front : take (2 * pairs) after ≡ bytes_of steps
  pub rest : drop (2 * pairs) after ≡ drop (2 * pairs) output
  pub size : length after ≡ length output

-- the writer, where it does not say 9: each answer exactly when its reason holds, and the output after it
pub record ExactWriting (Reach : Type 0) (W : (start : ℕ) → List Step → Type 0) (output : List ℕ) (said : Told) (after : List ℕ) : Type 0 where
  pub far : (said ≡ refused 17) ↔ (Reach → ⊥)
  pub small : (said ≡ refused 10) ↔ (Reach × (length output < 2172))
  pub absent : (said ≡ refused 16) ↔ (Reach × (2172 ≤ length output) × (SomeRun W → ⊥))
  pub found : Wrote said ↔ (Reach × (2172 ≤ length output) × SomeRun W)
  pub run : (start pairs : ℕ) → said ≡ written start pairs → WrittenRun W output start pairs after
  pub kept : (n : ℕ) → said ≡ refused n → after ≡ output
  pub no_other : (n : ℕ) → said ≡ refused n → (n ≡ 17) ⊎ ((n ≡ 10) ⊎ (n ≡ 16))

-- the checker, where it does not say 9
pub record ExactChecking (Reach : Type 0) (W : List Step → Type 0) (bytes : List ℕ) (said : Says) : Type 0 where
  pub valid : (said ≡ yes) ↔ (Reach × Pairs W bytes)
  pub invalid : (said ≡ no) ↔ (Reach × Pairs W bytes → ⊥)
  pub no_refusal : (n : ℕ) → said ≡ Says.refused n → ⊥

-- the verdict by the answers of the writer, asked for every step up to K and the trace: none where it wrote a run for each, leak l where l got 16 and
-- each smaller step a run
abbrev pub ByAnswers : (K : ℕ) → List ℕ → (answers : ℕ → Told) → Steps → Type 0
ByAnswers K trace answers none = (k : ℕ) → k ≤ K → k ≤ length trace → Wrote (answers k)
ByAnswers K trace answers (leak l) = (l ≤ K) × (l ≤ length trace) × (answers l ≡ refused 16) × ((k : ℕ) → k < l → Wrote (answers k))
