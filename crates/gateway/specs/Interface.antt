-- What each function of the interface answers and leaves, by the contracts of the crates below: 0, or the number of a refusal, which leaves every
-- lent slice as it was. A slice of another length than its layout has, and a notion that is none, get 9 before anything else.
use Rattle.std.specs.Prelude.{ℕ, zero, suc, ◌≤◌, ◌<◌, ◌≡◌, Bool, true, false, List, length, get_or}
use Rattle.automaton.specs.Run.{automaton_of}
use Rattle.automaton.specs.declared.Header.{Header}
use Rattle.decoding.specs.Decoding.{Decoding, accept, refuse}
use Rattle.opacity.specs.declared.Further.{Further}
use Rattle.verifier.specs.declared.Estimator.{Estimator}
use Rattle.opacity.specs.Secrets.{look_back_of, Allowed, TooLarge}
use Rattle.verifier.specs.Replies as verifier
use Rattle.verifier.specs.Replies.{Findings, Opening, Accepting}
use Rattle.enforcer.specs.Offerings as offering
use Rattle.enforcer.specs.Offerings.{Starting, Offering}
use Rattle.enforcer.specs.declared.Enforcer.{Enforcer}
use Rattle.enforcer.specs.declared.Release.{Release}
use Rattle.explore.specs.Configurations.{Number, MoreThan}
use Rattle.explore.specs.Explorations as exploring
use Rattle.explore.specs.Explorations.{Exploring}
use Rattle.explore.specs.declared.Exploration.{Exploration}
use Rattle.canonical.specs.Writing as canonical
use Rattle.canonical.specs.Writing.{Writing}
use Rattle.leaks.specs.FirstLeaks as leaking
use Rattle.leaks.specs.FirstLeaks.{Finding}
use Rattle.witness.specs.Answers.{Told, Says, WritingIn, CheckingIn}
use Rattle.layout.specs.Sizes as sizes
use Rattle.layout.specs.Layout.{header_at, header_bytes, further_at, estimator_at, estimator_bytes, EstimatorSaved}
use Rattle.layout.specs.Layout.{notion_at, enforcer_at, enforcer_bytes, EnforcerSaved, judgement_bytes, release_bytes, exploration_bytes, ExplorationSaved}
use Rattle.layout.specs.Layout.{first_leak_bytes, written_bytes, NumberSaved, run_bytes, RunSaved, valid_bytes}

-- decode: the answer, the table after and the header's bytes after
pub data Decode (encoding table header : List ℕ) : ℕ → List ℕ → List ℕ → Type 0 where
  size : (length header ≡ sizes.header_size → ⊥) → Decode encoding table header 9 table header
  refused : length header ≡ sizes.header_size → {h : Header} {n : ℕ} → Decoding encoding table h (refuse n) table → Decode encoding table header n table header
  accepted : length header ≡ sizes.header_size → {h : Header} {after : List ℕ} → Decoding encoding table h accept after
      → Decode encoding table header 0 after (header_bytes h)

-- the slices of a call of the verifier have the lengths of their layouts
pub record VerifierSizes (header estimator judgement : List ℕ) : Type 0 where
  pub header-size : length header ≡ sizes.header_size
  pub estimator-size : length estimator ≡ sizes.estimator_size
  pub judgement-size : length judgement ≡ sizes.judgement_size

-- so of a fresh call, and the further secrets
pub record FreshSizes (header further estimator judgement : List ℕ) : Type 0 where
  pub verifier : VerifierSizes header estimator judgement
  pub further-size : length further ≡ sizes.further_size

-- fresh: the answer, the estimator's bytes after and the judgement's after
pub data Fresh (t header further estimator judgement : List ℕ) : ℕ → List ℕ → List ℕ → Type 0 where
  size : (FreshSizes header further estimator judgement → ⊥) → Fresh t header further estimator judgement 9 estimator judgement
  refused : FreshSizes header further estimator judgement → {n : ℕ} {s : Estimator}
      → Opening t (header_at header) (further_at further 0) (verifier.refused n) s → Fresh t header further estimator judgement n estimator judgement
  accepted : FreshSizes header further estimator judgement → {j : Findings} {s : Estimator}
      → Opening t (header_at header) (further_at further 0) (verifier.verdicts j) s → EstimatorSaved s
      → Fresh t header further estimator judgement 0 (estimator_bytes s) (judgement_bytes j)

-- accept: the same, of the estimator that the bytes hold and a symbol
pub data Accept (t header : List ℕ) (symbol : ℕ) (estimator judgement : List ℕ) : ℕ → List ℕ → List ℕ → Type 0 where
  size : (VerifierSizes header estimator judgement → ⊥) → Accept t header symbol estimator judgement 9 estimator judgement
  refused : VerifierSizes header estimator judgement → {n : ℕ} {s : Estimator}
      → Accepting t (header_at header) (estimator_at estimator) symbol (verifier.refused n) s
      → Accept t header symbol estimator judgement n estimator judgement
  accepted : VerifierSizes header estimator judgement → {j : Findings} {s : Estimator}
      → Accepting t (header_at header) (estimator_at estimator) symbol (verifier.verdicts j) s → EstimatorSaved s
      → Accept t header symbol estimator judgement 0 (estimator_bytes s) (judgement_bytes j)

-- the slices of a start have the lengths of their layouts, and the notion is one
pub record StartSizes (header : List ℕ) (notion : ℕ) (further enforcer : List ℕ) : Type 0 where
  pub header-size : length header ≡ sizes.header_size
  pub notion_known : notion ≤ sizes.strong_byte
  pub further-size : length further ≡ sizes.further_size
  pub enforcer-size : length enforcer ≡ sizes.enforcer_size

-- start: the answer and the enforcer's bytes after
pub data Start (t header : List ℕ) (notion : ℕ) (further enforcer : List ℕ) : ℕ → List ℕ → Type 0 where
  size : (StartSizes header notion further enforcer → ⊥) → Start t header notion further enforcer 9 enforcer
  refused : StartSizes header notion further enforcer → {n : ℕ} {s : Enforcer}
      → Starting t (header_at header) (further_at further 0) (notion_at notion) (offering.not_started n) s → Start t header notion further enforcer n enforcer
  started : StartSizes header notion further enforcer → {s : Enforcer}
      → Starting t (header_at header) (further_at further 0) (notion_at notion) offering.started s → EnforcerSaved s
      → Start t header notion further enforcer 0 (enforcer_bytes s)

-- the slices of an offer have the lengths of their layouts, and the saved notion is one
pub record OfferSizes (header enforcer release : List ℕ) : Type 0 where
  pub header-size : length header ≡ sizes.header_size
  pub enforcer-size : length enforcer ≡ sizes.enforcer_size
  pub notion_known : get_or enforcer sizes.notion_place 0 ≤ sizes.strong_byte
  pub release-size : length release ≡ sizes.release_size

-- offer: the answer, the enforcer's bytes after, the output after and the release's bytes after
pub data Offer (t header : List ℕ) (symbol : ℕ) (enforcer output release : List ℕ) : ℕ → List ℕ → List ℕ → List ℕ → Type 0 where
  size : (OfferSizes header enforcer release → ⊥) → Offer t header symbol enforcer output release 9 enforcer output release
  refused : OfferSizes header enforcer release → {n : ℕ} {s : Enforcer}
      → Offering t (header_at header) (enforcer_at enforcer) symbol output (offering.refused n) s output
      → Offer t header symbol enforcer output release n enforcer output release
  released : OfferSizes header enforcer release → {r : Release} {s : Enforcer} {left : List ℕ}
      → Offering t (header_at header) (enforcer_at enforcer) symbol output (offering.released r) s left → EnforcerSaved s
      → Offer t header symbol enforcer output release 0 (enforcer_bytes s) left (release_bytes r)

-- the slices of an exploration have the lengths of their layouts
pub record ExploreSizes (header further exploration : List ℕ) : Type 0 where
  pub header-size : length header ≡ sizes.header_size
  pub further-size : length further ≡ sizes.further_size
  pub exploration-size : length exploration ≡ sizes.exploration_size

-- explore: the answer and the exploration's bytes after
pub data Explore (t header further : List ℕ) (budget : ℕ) (exploration : List ℕ) : ℕ → List ℕ → Type 0 where
  size : (ExploreSizes header further exploration → ⊥) → Explore t header further budget exploration 9 exploration
  refused : ExploreSizes header further exploration → {n : ℕ}
      → Exploring t (header_at header) (further_at further 0) (exploring.limit_of budget) (exploring.refused n)
      → Explore t header further budget exploration n exploration
  explored : ExploreSizes header further exploration → {e : Exploration}
      → Exploring t (header_at header) (further_at further 0) (exploring.limit_of budget)
      (exploring.explored e.number e.weak e.strong) → ExplorationSaved e
      → Explore t header further budget exploration 0 (exploration_bytes e)

-- the slices of a call for the first leak have the lengths of their layouts, and the notion is one
pub record FirstLeakSizes (header : List ℕ) (notion : ℕ) (further place : List ℕ) : Type 0 where
  pub header-size : length header ≡ sizes.header_size
  pub notion_known : notion ≤ sizes.strong_byte
  pub further-size : length further ≡ sizes.further_size
  pub place_size : length place ≡ sizes.first_leak_size

-- what a saved place says: 0 that there is none
abbrev pub leak_said : ℕ → leaking.Said
leak_said zero = leaking.nowhere
leak_said (suc p) = leaking.at (suc p)

-- first leak: the answer and the place's bytes after
pub data FirstLeakCall (t header : List ℕ) (notion : ℕ) (further events place : List ℕ) : ℕ → List ℕ → Type 0 where
  size : (FirstLeakSizes header notion further place → ⊥) → FirstLeakCall t header notion further events place 9 place
  refused : FirstLeakSizes header notion further place → {n : ℕ}
      → Finding (notion_at notion) t (header_at header) (further_at further 0) events (leaking.refused n)
      → FirstLeakCall t header notion further events place n place
  found : FirstLeakSizes header notion further place → {p : ℕ}
      → Finding (notion_at notion) t (header_at header) (further_at further 0) events (leak_said p) → NumberSaved p
      → FirstLeakCall t header notion further events place 0 (first_leak_bytes p)

-- canonical: the answer, the output after and the written size's bytes after
pub data CanonicalCall (encoding output lent : List ℕ) : ℕ → List ℕ → List ℕ → Type 0 where
  size : (length lent ≡ sizes.written_size → ⊥) → CanonicalCall encoding output lent 9 output lent
  refused : length lent ≡ sizes.written_size → {n : ℕ} → Writing encoding output (canonical.refuse n) output
      → CanonicalCall encoding output lent n output lent
  written : length lent ≡ sizes.written_size → {n : ℕ} {after : List ℕ} → Writing encoding output (canonical.wrote n) after → NumberSaved n
      → CanonicalCall encoding output lent 0 after (written_bytes n)

-- the slices of a call for a witness have the lengths of their layouts, and the notion is one
pub record WitnessSizes (header : List ℕ) (notion : ℕ) (estimator run : List ℕ) : Type 0 where
  pub header-size : length header ≡ sizes.header_size
  pub notion_known : notion ≤ sizes.strong_byte
  pub estimator-size : length estimator ≡ sizes.estimator_size
  pub run-size : length run ≡ sizes.run_size

-- witness: the answer, the output after and the run's bytes after
pub data Witnessing (t header : List ℕ) (notion secret k : ℕ) (estimator output run : List ℕ) : ℕ → List ℕ → List ℕ → Type 0 where
  size : (WitnessSizes header notion estimator run → ⊥) → Witnessing t header notion secret k estimator output run 9 output run
  refused : WitnessSizes header notion estimator run → {n : ℕ}
      → WritingIn t (header_at header) (estimator_at estimator) (notion_at notion) secret k output (Told.refused n) output
      → Witnessing t header notion secret k estimator output run n output run
  written : WitnessSizes header notion estimator run → {start pairs : ℕ} {after : List ℕ}
      → WritingIn t (header_at header) (estimator_at estimator) (notion_at notion) secret k output (Told.written start pairs) after → RunSaved start pairs
      → Witnessing t header notion secret k estimator output run 0 after (run_bytes start pairs)

-- so of a call that checks one
pub record CheckWitnessSizes (header : List ℕ) (notion : ℕ) (estimator valid : List ℕ) : Type 0 where
  pub header-size : length header ≡ sizes.header_size
  pub notion_known : notion ≤ sizes.strong_byte
  pub estimator-size : length estimator ≡ sizes.estimator_size
  pub valid-size : length valid ≡ sizes.valid_size

-- what is said of a run
abbrev pub valid_said : Bool → Says
valid_said false = Says.no
valid_said true = Says.yes

-- check_witness: the answer and the byte after it
pub data CheckingWitness (t header : List ℕ) (notion secret k start : ℕ) (estimator pairs valid : List ℕ) : ℕ → List ℕ → Type 0 where
  size : (CheckWitnessSizes header notion estimator valid → ⊥) → CheckingWitness t header notion secret k start estimator pairs valid 9 valid
  refused : CheckWitnessSizes header notion estimator valid → {n : ℕ}
      → CheckingIn t (header_at header) (estimator_at estimator) (notion_at notion) secret k start pairs (Says.refused n)
      → CheckingWitness t header notion secret k start estimator pairs valid n valid
  checked : CheckWitnessSizes header notion estimator valid → (holds : Bool)
      → CheckingIn t (header_at header) (estimator_at estimator) (notion_at notion) secret k start pairs (valid_said holds)
      → CheckingWitness t header notion secret k start estimator pairs valid 0 (valid_bytes holds)

-- what a fresh call answers on a header that was decoded, with slices of their lengths: 0 where the further secrets may be given, and else 13 or 14, each
-- on its condition
pub data ByFurther (f : Further) : ℕ → Type 0 where
  given : Allowed f → ByFurther f 0
  too_many : 3 < f.count → ByFurther f 13
  too_large : f.count ≤ 3 → TooLarge f → ByFurther f 14

-- and a start: the same, but 8 in place of 0 exactly where a secret that is given opens as leak 0, its number in hand
pub data ByStart (f : Further) (Leaks : Type 0) : ℕ → Type 0 where
  started : Allowed f → (Leaks → ⊥) → ByStart f Leaks 0
  initial_leak : Allowed f → Leaks → ByStart f Leaks 8
  too_many : 3 < f.count → ByStart f Leaks 13
  too_large : f.count ≤ 3 → TooLarge f → ByStart f Leaks 14

-- and an exploration: 15 in place of 0 exactly where there are more different configurations than the budget allows
pub data ByExplore (t : List ℕ) (h : Header) (f : Further) (budget : ℕ) : ℕ → Type 0 where
  explored : {n : ℕ} → Allowed f → n ≤ exploring.limit_of budget → Number (automaton_of t h) (look_back_of h f) n → ByExplore t h f budget 0
  spent : Allowed f → MoreThan (automaton_of t h) (look_back_of h f) (exploring.limit_of budget) → ByExplore t h f budget 15
  too_many : 3 < f.count → ByExplore t h f budget 13
  too_large : f.count ≤ 3 → TooLarge f → ByExplore t h f budget 14

-- and a call of canonical on an encoding that is decoded, whose form has so many bytes: 10 in place of 0 exactly where the output has fewer
pub data ByOutput (form output : List ℕ) : ℕ → Type 0 where
  written : length form ≤ length output → ByOutput form output 0
  too_small : length output < length form → ByOutput form output 10
