-- What a fresh estimator and an offered symbol give, in the order that 01 gives below its refusal table.
use Rattle.std.specs.Prelude.{◌≡◌, List, [], ◌∷◌, ◌++◌, map, ℕ, suc, ◌≤◌, ◌<◌, length, get_or, take, Err, Ok, Result}
use Rattle.automaton.specs.Run.{automaton_of, Possible, Impossible, Observable, WellFormed}
use Rattle.automaton.specs.Reaching.{EstimateSize, SizeWithin}
use Rattle.refusal.specs.Refusals.{number_of}
use Rattle.automaton.specs.declared.Header.{Header}
use Rattle.opacity.specs.Secrets.{secrets_of, ForEach, cleared_of, Allowed, TooLarge}
use Rattle.opacity.specs.Verdicts.{Steps, none, steps_of, Tells, Bounded}
use Rattle.verifier.specs.Estimators.{Limits, InLimits, GrownOn}
use Rattle.opacity.specs.declared.Notion.{Notion}
use Rattle.opacity.specs.declared.Notion.TheVariants.{Weak, Strong}
use Rattle.opacity.specs.declared.Secret.{Secret}
use Rattle.opacity.specs.declared.Further.{Further}
use Rattle.verifier.specs.declared.Estimator.{Estimator}
use Rattle.opacity.specs.declared.Verdict.{Verdict}
use Rattle.opacity.specs.declared.Verdict.TheVariants.{NoLeak}
use Rattle.opacity.specs.declared.Verdicts as declared
use Rattle.verifier.specs.declared.EachSecret.{EachSecret}
use Rattle.verifier.specs.declared.Judgement.{Judgement}
use Rattle.refusal.specs.declared.Refusal.{Refusal}

-- the steps of the two verdicts of one secret
pub record Told : Type 0 where
  pub weak : Steps
  pub strong : Steps

abbrev pub told_of : declared.Verdicts → Told
told_of v = record { weak = steps_of v.weak; strong = steps_of v.strong }

-- the verdicts of a place that is not given
abbrev pub none_told : Told
none_told = record { weak = none; strong = none }

abbrev pub no_leaks : declared.Verdicts
no_leaks = record { weak = NoLeak; strong = NoLeak }

-- what is told of the secret with a number, by the notion
abbrev pub steps_by : Notion → Told → Steps
steps_by Weak v = v.weak
steps_by Strong v = v.strong

abbrev pub told_at : Notion → List Told → ℕ → Steps
told_at notion vs i = steps_by notion (get_or vs i none_told)

-- the verdicts of all four places, as the secrets are numbered
abbrev pub numbered : EachSecret declared.Verdicts → List declared.Verdicts
numbered v = v.own ∷ v.first ∷ v.second ∷ v.third ∷ []

-- those of the secrets that are given: two for each
abbrev pub told_each : Further → EachSecret declared.Verdicts → List Told
told_each f v = take (suc f.count) (map told_of (numbered v))

-- what an accepting answer tells: the steps of the two verdicts of each secret that is given, and how many states are possible
pub record Findings : Type 0 where
  pub each : List Told
  pub size : ℕ

abbrev pub findings : Further → Judgement declared.Verdicts → Findings
findings f j = record { each = told_each f j.verdicts; size = j.size }

-- what an answer says: the number of a refusal, or that
pub data Said : Type 0 where
  refused : ℕ → Said
  verdicts : Findings → Said

abbrev pub said : Further → Result (Judgement declared.Verdicts) Refusal → Said
said f (Err r) = refused (number_of r)
said f (Ok j) = verdicts (findings f j)

-- the places of secrets that are not given hold no leak
abbrev pub OthersNoLeak : Further → EachSecret declared.Verdicts → Type 0
OthersNoLeak f v = (i : ℕ) → f.count < i → get_or (numbered v) i no_leaks ≡ no_leaks

abbrev pub Others : Further → Result (Judgement declared.Verdicts) Refusal → Type 0
Others f (Err r) = Unit {0}
Others f (Ok j) = OthersNoLeak f j.verdicts

-- the verdicts after a trace, two for each secret by its own K, how many states are possible, and the estimator that has grown by it. Some run is
-- compatible with the trace: else a leak would say nothing
pub record Exact (t : List ℕ) (h : Header) (cs : List Secret) (trace : List ℕ) (j : Findings) (s : Estimator) : Type 0 where
  pub possible : Possible (automaton_of t h) trace
  pub tells : (notion : Notion) → ForEach cs (λ i c. Tells notion (automaton_of t h) c trace (told_at notion j.each i))
  pub size : EstimateSize (automaton_of t h) trace j.size
  pub grown : GrownOn t h trace s

-- outside its limits on every automaton
abbrev pub Unusable : Estimator → Type 0
Unusable s = (K : ℕ) → K ≤ 15 → Limits K s → ⊥

-- a fresh estimator with further secrets, which it keeps, the places past their count emptied. A refused one is outside its limits on every automaton
pub data Opening (t : List ℕ) (h : Header) (f : Further) : Said → Estimator → Type 0 where
  malformed : {s : Estimator} → (WellFormed t h → ⊥) → Unusable s → Opening t h f (refused 9) s
  too_many_secrets : {s : Estimator} → WellFormed t h → 3 < f.count → Unusable s → Opening t h f (refused 13) s
  look_back_too_large : {s : Estimator} → WellFormed t h → f.count ≤ 3 → TooLarge f → Unusable s → Opening t h f (refused 14) s
  opened : {j : Findings} {s : Estimator} → WellFormed t h → Allowed f → s.further ≡ cleared_of f → InLimits h s
      → length j.each ≡ length (secrets_of h f) → SizeWithin j.size → Exact t h (secrets_of h f) [] j s → Opening t h f (verdicts j) s

-- a symbol offered to an estimator: the answer, and the estimator after it, with the same further secrets. Of one that is Grown by no trace only the
-- limits are said, that each verdict is from 0 to its secret's own K or none, and that the number is from 1 to 64
pub data Accepting (t : List ℕ) (h : Header) (self : Estimator) (symbol : ℕ) : Said → Estimator → Type 0 where
  malformed : (WellFormed t h × InLimits h self → ⊥) → Accepting t h self symbol (refused 9) self
  not_observable : WellFormed t h → InLimits h self → (Observable h symbol → ⊥) → Accepting t h self symbol (refused 6) self
  incompatible : WellFormed t h → InLimits h self → Observable h symbol
      → ((trace : List ℕ) → GrownOn t h trace self → Impossible (automaton_of t h) (trace ++ symbol ∷ []))
      → Accepting t h self symbol (refused 7) self
  accepted : {j : Findings} {s : Estimator} → WellFormed t h → InLimits h self → Observable h symbol
      → s.further ≡ self.further → InLimits h s → length j.each ≡ length (secrets_of h self.further)
      → ((notion : Notion) → ForEach (secrets_of h self.further) (λ i c. Bounded c.k (told_at notion j.each i))) → SizeWithin j.size
      → ((trace : List ℕ) → GrownOn t h trace self → Exact t h (secrets_of h self.further) (trace ++ symbol ∷ []) j s)
      → Accepting t h self symbol (verdicts j) s

-- the same of an answer with the verdicts by one notion: the steps of that verdict of each secret
pub record FindingsBy : Type 0 where
  pub each : List Steps
  pub size : ℕ

pub data SaidBy : Type 0 where
  refused-by : ℕ → SaidBy
  verdicts_by : FindingsBy → SaidBy

abbrev pub numbered_by : EachSecret Verdict → List Verdict
numbered_by v = v.own ∷ v.first ∷ v.second ∷ v.third ∷ []

-- those of the secrets that are given: one for each
abbrev pub steps_each : Further → EachSecret Verdict → List Steps
steps_each f v = take (suc f.count) (map steps_of (numbered_by v))

abbrev pub findings_by : Further → Judgement Verdict → FindingsBy
findings_by f j = record { each = steps_each f j.verdicts; size = j.size }

abbrev pub said_by : Further → Result (Judgement Verdict) Refusal → SaidBy
said_by f (Err r) = refused-by (number_of r)
said_by f (Ok j) = verdicts_by (findings_by f j)

abbrev pub OthersBy : Further → Result (Judgement Verdict) Refusal → Type 0
OthersBy f (Err r) = Unit {0}
OthersBy f (Ok j) = (i : ℕ) → f.count < i → get_or (numbered_by j.verdicts) i NoLeak ≡ NoLeak

abbrev pub chosen : Notion → declared.Verdicts → Verdict
chosen Weak v = v.weak
chosen Strong v = v.strong

abbrev pub chosen_each : Notion → EachSecret declared.Verdicts → EachSecret Verdict
chosen_each notion v =
    record { own = chosen notion v.own; first = chosen notion v.first; second = chosen notion v.second; third = chosen notion v.third }

-- a symbol that was accepted: how many states are possible, and the estimator after it, whatever is asked for. That it has grown says that some run is
-- compatible (Grown.possible)
pub record Moved (t : List ℕ) (h : Header) (self : Estimator) (symbol n : ℕ) (s : Estimator) : Type 0 where
  pub well_formed : WellFormed t h
  pub limits : InLimits h self
  pub observable : Observable h symbol
  pub same : s.further ≡ self.further
  pub limits_after : InLimits h s
  pub size_within : SizeWithin n
  pub grown : (trace : List ℕ) → GrownOn t h trace self → GrownOn t h (trace ++ symbol ∷ []) s
  pub size : (trace : List ℕ) → GrownOn t h trace self → EstimateSize (automaton_of t h) (trace ++ symbol ∷ []) n

-- and its verdict of one secret by one notion
pub record TellsBy (notion : Notion) (t : List ℕ) (h : Header) (self : Estimator) (symbol : ℕ) (c : Secret) (v : Steps) : Type 0 where
  pub bounded : Bounded c.k v
  pub tells : (trace : List ℕ) → GrownOn t h trace self → Tells notion (automaton_of t h) c (trace ++ symbol ∷ []) v

-- a symbol offered to an estimator, with the verdicts by one notion: refusals as above, and an accepted symbol with that verdict of each secret and the
-- number
pub data AcceptingBy (notion : Notion) (t : List ℕ) (h : Header) (self : Estimator) (symbol : ℕ) : SaidBy → Estimator → Type 0 where
  turned_back : {n : ℕ} {s : Estimator} → Accepting t h self symbol (refused n) s → AcceptingBy notion t h self symbol (refused-by n) s
  accepted_by : {j : FindingsBy} {s : Estimator} → Moved t h self symbol j.size s → length j.each ≡ length (secrets_of h self.further)
      → ForEach (secrets_of h self.further) (λ i c. TellsBy notion t h self symbol c (get_or j.each i none))
      → AcceptingBy notion t h self symbol (verdicts_by j) s
