-- A gateway that keeps a table, a header and a state as bytes: the three points of the C functions, the exploration, the first leak, the canonical form and
-- the witness.
use Rattle.std.specs.Prelude.{◌≡◌, true, List, ℕ, ◌*◌, ◌≤◌, length, get_or, take}
use Rattle.automaton.specs.Run.{automaton_of}
use Rattle.automaton.specs.declared.Header.{Header}
use Rattle.decoding.specs.Decoding.{Decoding, accept, refuse}
use Rattle.opacity.specs.Secrets.{secrets_of, cleared_of, Allowed}
use Rattle.verifier.specs.Estimators as estimator
use Rattle.verifier.specs.declared.Estimator.{Estimator}
use Rattle.verifier.specs.Replies as verifier
use Rattle.verifier.specs.Replies.{Opening, Accepting}
use Rattle.verifier.specs.Calls.{VerifierPromise, accepted_of}
use Rattle.enforcer.specs.Enforcers as enforcer
use Rattle.enforcer.specs.declared.Enforcer.{Enforcer}
use Rattle.enforcer.specs.Offerings as offering
use Rattle.enforcer.specs.Offerings.{OpensAsLeak, Starting, Offering}
use Rattle.enforcer.specs.Offers.{EnforcerPromise}
use Rattle.published.specs.Source.{PublishedReleases}
use Rattle.explore.specs.Explorations as exploring
use Rattle.explore.specs.Explorations.{ExploredAll, Exploring}
use Rattle.waiting.specs.LongestWaits.{wait_by}
use Rattle.leaks.specs.FirstLeaks as leaking
use Rattle.leaks.specs.FirstLeaks.{Finding}
use Rattle.canonical.specs.Meanings.{Meaning, Means, canonical_bytes}
use Rattle.canonical.specs.Writing as writing
use Rattle.canonical.specs.Writing.{Writing}
use Rattle.layout.specs.Sizes.{header_size, further_size, estimator_size, strong_byte, notion_place, enforcer_size, judgement_size, exploration_size, first_leak_size}
use Rattle.witness.specs.Answers.{Told, Says, InReach, WritingIn, CheckingIn}
use Rattle.witness.specs.Traces.{IsWitnessOf, ExactWriting, ExactChecking}
use Rattle.layout.specs.Sizes.{written_size, run_size, valid_size}
use Rattle.layout.specs.Layout.{header_at, further_at, estimator_at, notion_at, enforcer_at, judgement_at, exploration_at, first_leak_at, written_at}
use Rattle.layout.specs.Layout.{start_at, pairs_at, valid_at}
use Rattle.gateway.specs.Interface.{Decode, FreshSizes, Fresh, VerifierSizes, Accept, StartSizes, Start, OfferSizes, Offer, ExploreSizes, Explore}
use Rattle.gateway.specs.Interface.{FirstLeakSizes, FirstLeakCall, leak_said, CanonicalCall, ByOutput}
use Rattle.gateway.specs.Interface.{WitnessSizes, Witnessing, CheckWitnessSizes, CheckingWitness}
use Rattle.gateway.specs.Interface.{ByFurther, ByStart, ByExplore}
use Rattle.gateway.specs.SavedCalls.{AcceptCall, AcceptCalls, calls_of, OfferCall, OfferCalls, offers_of, SavedLongestWait}
use Rattle.gateway.specs.SavedCalls.{witness_said, check_said}

-- the first point, of each of the ten functions: 9 where a slice has not its length or the notion is none; else the refusal of the entry below (FirstPoint);
-- whatever is not 0 leaves every lent slice as it was
abbrev pub DecodeSaved : Type 0
DecodeSaved = (encoding table header : List ℕ) (answer : ℕ) (t after : List ℕ) → Decode encoding table header answer t after
    → ((length header ≡ header_size → ⊥) → answer ≡ 9) × ((answer ≡ 0 → ⊥) → (t ≡ table) × (after ≡ header))
    × (length header ≡ header_size → (answer ≡ 0 → ⊥) → (h : Header) × Decoding encoding table h (refuse answer) table)

abbrev pub FreshSaved : Type 0
FreshSaved = (t header further estimator judgement : List ℕ) (answer : ℕ) (s told : List ℕ) → Fresh t header further estimator judgement answer s told
    → ((FreshSizes header further estimator judgement → ⊥) → answer ≡ 9) × ((answer ≡ 0 → ⊥) → (s ≡ estimator) × (told ≡ judgement))
    × (FreshSizes header further estimator judgement → (answer ≡ 0 → ⊥)
    → (x : Estimator) × Opening t (header_at header) (further_at further 0) (verifier.refused answer) x)

abbrev pub AcceptSaved : Type 0
AcceptSaved = (t header : List ℕ) (symbol : ℕ) (estimator judgement : List ℕ) (answer : ℕ) (s told : List ℕ)
    → Accept t header symbol estimator judgement answer s told
    → ((VerifierSizes header estimator judgement → ⊥) → answer ≡ 9) × ((answer ≡ 0 → ⊥) → (s ≡ estimator) × (told ≡ judgement))
    × (VerifierSizes header estimator judgement → (answer ≡ 0 → ⊥)
    → (x : Estimator) × Accepting t (header_at header) (estimator_at estimator) symbol (verifier.refused answer) x)

abbrev pub StartSaved : Type 0
StartSaved = (t header : List ℕ) (notion : ℕ) (further enforcer : List ℕ) (answer : ℕ) (s : List ℕ) → Start t header notion further enforcer answer s
    → ((StartSizes header notion further enforcer → ⊥) → answer ≡ 9) × ((answer ≡ 0 → ⊥) → s ≡ enforcer)
    × (StartSizes header notion further enforcer → (answer ≡ 0 → ⊥)
    → (x : Enforcer) × Starting t (header_at header) (further_at further 0) (notion_at notion) (offering.not_started answer) x)

abbrev pub OfferSaved : Type 0
OfferSaved = (t header : List ℕ) (symbol : ℕ) (enforcer output release : List ℕ) (answer : ℕ) (s left told : List ℕ)
    → Offer t header symbol enforcer output release answer s left told
    → ((OfferSizes header enforcer release → ⊥) → answer ≡ 9) × ((answer ≡ 0 → ⊥) → (s ≡ enforcer) × (left ≡ output) × (told ≡ release))
    × (OfferSizes header enforcer release → (answer ≡ 0 → ⊥)
    → (x : Enforcer) × Offering t (header_at header) (enforcer_at enforcer) symbol output (offering.refused answer) x output)

abbrev pub ExploreSaved : Type 0
ExploreSaved = (t header further : List ℕ) (budget : ℕ) (exploration : List ℕ) (answer : ℕ) (out : List ℕ)
    → Explore t header further budget exploration answer out
    → ((ExploreSizes header further exploration → ⊥) → answer ≡ 9) × ((answer ≡ 0 → ⊥) → out ≡ exploration)
    × (ExploreSizes header further exploration → (answer ≡ 0 → ⊥)
    → Exploring t (header_at header) (further_at further 0) (exploring.limit_of budget) (exploring.refused answer))

abbrev pub FirstLeakSaved : Type 0
FirstLeakSaved = (t header : List ℕ) (notion : ℕ) (further events place : List ℕ) (answer : ℕ) (out : List ℕ)
    → FirstLeakCall t header notion further events place answer out
    → ((FirstLeakSizes header notion further place → ⊥) → answer ≡ 9) × ((answer ≡ 0 → ⊥) → out ≡ place)
    × (FirstLeakSizes header notion further place → (answer ≡ 0 → ⊥)
    → Finding (notion_at notion) t (header_at header) (further_at further 0) events (leaking.refused answer))

abbrev pub CanonicalSaved : Type 0
CanonicalSaved = (encoding output size : List ℕ) (answer : ℕ) (after out : List ℕ) → CanonicalCall encoding output size answer after out
    → ((length size ≡ written_size → ⊥) → answer ≡ 9) × ((answer ≡ 0 → ⊥) → (after ≡ output) × (out ≡ size))
    × (length size ≡ written_size → (answer ≡ 0 → ⊥) → Writing encoding output (writing.refuse answer) output)

abbrev pub WitnessSaved : Type 0
WitnessSaved = (t header : List ℕ) (notion secret k : ℕ) (estimator output run : List ℕ) (answer : ℕ) (after out : List ℕ)
    → Witnessing t header notion secret k estimator output run answer after out
    → ((WitnessSizes header notion estimator run → ⊥) → answer ≡ 9) × ((answer ≡ 0 → ⊥) → (after ≡ output) × (out ≡ run))
    × (WitnessSizes header notion estimator run → (answer ≡ 0 → ⊥)
    → WritingIn t (header_at header) (estimator_at estimator) (notion_at notion) secret k output (Told.refused answer) output)

abbrev pub CheckSaved : Type 0
CheckSaved = (t header : List ℕ) (notion secret k start : ℕ) (estimator pairs valid : List ℕ) (answer : ℕ) (out : List ℕ)
    → CheckingWitness t header notion secret k start estimator pairs valid answer out
    → ((CheckWitnessSizes header notion estimator valid → ⊥) → answer ≡ 9) × ((answer ≡ 0 → ⊥) → out ≡ valid)
    × (CheckWitnessSizes header notion estimator valid → (answer ≡ 0 → ⊥)
    → CheckingIn t (header_at header) (estimator_at estimator) (notion_at notion) secret k start pairs (Says.refused answer))

-- after a decode that answered 0, with slices of their lengths: a fresh call and a first leak are refused by 13 and 14 only, a start by these and by 8, an
-- exploration by these two and by 15, each on its condition
abbrev pub FreshBySecrets : Type 0
FreshBySecrets = (encoding table before t header further estimator lent : List ℕ) (answer : ℕ) (s told : List ℕ) → Decode encoding table before 0 t header
    → length further ≡ further_size → length estimator ≡ estimator_size → length lent ≡ judgement_size → Fresh t header further estimator lent answer s told
    → ByFurther (further_at further 0) answer

abbrev pub StartBySecrets : Type 0
StartBySecrets = (encoding table before t header : List ℕ) (notion : ℕ) (further enforcer : List ℕ) (answer : ℕ) (s : List ℕ)
    → Decode encoding table before 0 t header → notion ≤ strong_byte → length further ≡ further_size → length enforcer ≡ enforcer_size
    → Start t header notion further enforcer answer s
    → ByStart (further_at further 0) (OpensAsLeak (notion_at notion) (automaton_of t (header_at header)) (secrets_of (header_at header) (further_at further 0))) answer

abbrev pub ExploreByBudget : Type 0
ExploreByBudget = (encoding table before t header further : List ℕ) (budget : ℕ) (lent : List ℕ) (answer : ℕ) (out : List ℕ)
    → Decode encoding table before 0 t header → length further ≡ further_size → length lent ≡ exploration_size
    → Explore t header further budget lent answer out → ByExplore t (header_at header) (further_at further 0) budget answer

abbrev pub FirstLeakBySecrets : Type 0
FirstLeakBySecrets = (encoding table before t header : List ℕ) (notion : ℕ) (further events lent : List ℕ) (answer : ℕ) (out : List ℕ)
    → Decode encoding table before 0 t header → notion ≤ strong_byte → length further ≡ further_size → length lent ≡ first_leak_size
    → FirstLeakCall t header notion further events lent answer out → ByFurther (further_at further 0) answer

-- the second point, from the bytes of an encoding to the verdicts
abbrev pub EncodedSecondPoint : Type 0
EncodedSecondPoint = (encoding table before t header further estimator lent : List ℕ) (answer : ℕ) (s told : List ℕ) (cs : List AcceptCall) (e : List ℕ)
    → Decode encoding table before 0 t header → length further ≡ further_size → length estimator ≡ estimator_size → length lent ≡ judgement_size
    → Allowed (further_at further 0) → Fresh t header further estimator lent answer s told → AcceptCalls t header s cs e
    → (answer ≡ 0) × Decoding encoding table (header_at header) accept t
    × VerifierPromise t (header_at header) (further_at further 0) (judgement_at (further_at further 0).count told) (calls_of (further_at further 0).count cs)
    (estimator_at e)

-- the same of any header's bytes, after a fresh call that answered 0
abbrev pub SavedSecondPoint : Type 0
SavedSecondPoint = (t header further before lent s told : List ℕ) (cs : List AcceptCall) (e : List ℕ) → Fresh t header further before lent 0 s told
    → AcceptCalls t header s cs e
    → VerifierPromise t (header_at header) (further_at further 0) (judgement_at (further_at further 0).count told) (calls_of (further_at further 0).count cs)
    (estimator_at e)

-- the third point; and by source 000's Definition 12
abbrev pub SavedThirdPoint : Type 0
SavedThirdPoint = (t header : List ℕ) (notion : ℕ) (further before s : List ℕ) (cs : List OfferCall) (e : List ℕ) → Start t header notion further before 0 s
    → OfferCalls t header s cs e → EnforcerPromise (notion_at notion) t (header_at header) (further_at further 0) (offers_of cs) (enforcer_at e)

abbrev pub SavedThirdPointPublished : Type 0
SavedThirdPointPublished = (t header : List ℕ) (notion : ℕ) (further before s : List ℕ) (cs : List OfferCall) (e : List ℕ)
    → Start t header notion further before 0 s → OfferCalls t header s cs e
    → PublishedReleases (notion_at notion) t (header_at header) (further_at further 0) (offers_of cs)

-- the exploration: where it answered 0, its bytes hold the number of different configurations, and for each notion the largest wait
abbrev pub ExploredBytes : Type 0
ExploredBytes = (t header further : List ℕ) (budget : ℕ) (lent out : List ℕ) → Explore t header further budget lent 0 out
    → ExploredAll t (header_at header) (further_at further 0) (exploring.limit_of budget) (exploration_at out).number (exploration_at out).weak
    (exploration_at out).strong

-- and where a start with the same secrets answered 0, that wait is the longest over any calls on the bytes that it left
abbrev pub SavedWaits : Type 0
SavedWaits = (t header a b : List ℕ) (budget : ℕ) (lent out : List ℕ) (notion : ℕ) (before s : List ℕ)
    → cleared_of (further_at a 0) ≡ cleared_of (further_at b 0) → Explore t header a budget lent 0 out → Start t header notion b before 0 s
    → SavedLongestWait t header s (wait_by (notion_at notion) (exploration_at out).weak (exploration_at out).strong)

-- the first leak: where it answered 0, its bytes hold the place, or 0 where there is none
abbrev pub FirstLeakInBytes : Type 0
FirstLeakInBytes = (t header : List ℕ) (notion : ℕ) (further events lent out : List ℕ) → FirstLeakCall t header notion further events lent 0 out
    → Finding (notion_at notion) t (header_at header) (further_at further 0) events (leak_said (first_leak_at out))

-- of the bytes of an estimator that a fresh call and a list of calls led to, a witness is written, and checked, over the accepted symbols, with the secrets as
-- they were given (Witnesses: GrownWriting, GrownChecking)
abbrev pub SavedWitness : Type 0
SavedWitness = (t header further before lent s told : List ℕ) (cs : List AcceptCall) (e : List ℕ) → Fresh t header further before lent 0 s told
    → AcceptCalls t header s cs e → (notion secret k : ℕ) (output run : List ℕ) (answer : ℕ) (after out : List ℕ) → notion ≤ strong_byte
    → length run ≡ run_size → Witnessing t header notion secret k e output run answer after out
    → ExactWriting (InReach (header_at header) (further_at further 0) (length (accepted_of (calls_of (further_at further 0).count cs))) secret k)
    (IsWitnessOf t (header_at header) (further_at further 0) (accepted_of (calls_of (further_at further 0).count cs)) (notion_at notion) secret k)
    output (witness_said answer out) after

abbrev pub SavedCheck : Type 0
SavedCheck = (t header further before lent s told : List ℕ) (cs : List AcceptCall) (e : List ℕ) → Fresh t header further before lent 0 s told
    → AcceptCalls t header s cs e → (notion secret k start : ℕ) (pairs valid : List ℕ) (answer : ℕ) (out : List ℕ) → notion ≤ strong_byte
    → length valid ≡ valid_size → CheckingWitness t header notion secret k start e pairs valid answer out
    → ExactChecking (InReach (header_at header) (further_at further 0) (length (accepted_of (calls_of (further_at further 0).count cs))) secret k)
    (IsWitnessOf t (header_at header) (further_at further 0) (accepted_of (calls_of (further_at further 0).count cs)) (notion_at notion) secret k start)
    pairs (check_said answer out)

-- of any saved estimator, grown or not: where a run was written, or checked, the bytes hold what `witness` or `check_witness` answered (FirstPoint:
-- EveryWitness, EveryCheck)
abbrev pub WitnessInBytes : Type 0
WitnessInBytes = (t header : List ℕ) (notion secret k : ℕ) (estimator output run after out : List ℕ)
    → Witnessing t header notion secret k estimator output run 0 after out
    → WritingIn t (header_at header) (estimator_at estimator) (notion_at notion) secret k output (Told.written (start_at out) (pairs_at out)) after

abbrev pub CheckInBytes : Type 0
CheckInBytes = (t header : List ℕ) (notion secret k start : ℕ) (estimator pairs valid out : List ℕ)
    → CheckingWitness t header notion secret k start estimator pairs valid 0 out
    → CheckingIn t (header_at header) (estimator_at estimator) (notion_at notion) secret k start pairs (check_said 0 out)

-- what was written passes the checker
abbrev pub SavedPasses : Type 0
SavedPasses = (t header : List ℕ) (notion secret k : ℕ) (estimator output run after out valid : List ℕ) (answer : ℕ) (left : List ℕ)
    → Witnessing t header notion secret k estimator output run 0 after out → length valid ≡ valid_size
    → CheckingWitness t header notion secret k (start_at out) estimator (take (2 * pairs_at out) after) valid answer left
    → (answer ≡ 0) × (valid_at left ≡ true)

-- the canonical form: where it answered 0, its bytes hold how many bytes were written; there is one answer; after a decode that answered 0 it is 0 or 10,
-- each on its condition, and after one that did not it is that number; and what was written decodes to the same table and the same header's bytes
abbrev pub CanonicalInBytes : Type 0
CanonicalInBytes = (encoding output lent after out : List ℕ) → CanonicalCall encoding output lent 0 after out
    → Writing encoding output (writing.wrote (written_at out)) after

abbrev pub OneCanonical : Type 0
OneCanonical = (encoding output lent : List ℕ) (a b : ℕ) (after after' out out' : List ℕ) → CanonicalCall encoding output lent a after out
    → CanonicalCall encoding output lent b after' out' → (a ≡ b) × (after ≡ after') × (out ≡ out')

abbrev pub CanonicalByOutput : Type 0
CanonicalByOutput = (encoding table before t header output lent : List ℕ) (answer : ℕ) (after out : List ℕ) → Decode encoding table before 0 t header
    → length lent ≡ written_size → CanonicalCall encoding output lent answer after out
    → (m : Meaning) × Means encoding m × ByOutput (canonical_bytes m) output answer

-- where decoding refuses it, it refuses by the same number
abbrev pub CanonicalAsDecode : Type 0
CanonicalAsDecode = (encoding table before t header output lent : List ℕ) (n answer : ℕ) (after out : List ℕ) → length table ≡ 2048
    → length before ≡ header_size → length lent ≡ written_size → Decode encoding table before n t header → (n ≡ 0 → ⊥)
    → CanonicalCall encoding output lent answer after out → answer ≡ n

abbrev pub CanonicalDecodes : Type 0
CanonicalDecodes = (encoding table before t header output lent after out : List ℕ) (table' before' : List ℕ) (answer : ℕ) (t' header' : List ℕ)
    → Decode encoding table before 0 t header → CanonicalCall encoding output lent 0 after out → length table' ≡ 2048 → length before' ≡ header_size
    → Decode (take (written_at out) after) table' before' answer t' header' → (answer ≡ 0) × (t' ≡ t) × (header' ≡ header)

-- what an accepted symbol leaves is within its limits as it reads back, whatever the state grew from, and keeps the further secrets
abbrev pub AcceptWithin : Type 0
AcceptWithin = (t header : List ℕ) (symbol : ℕ) (before lent after told : List ℕ) → Accept t header symbol before lent 0 after told
    → (length after ≡ estimator_size) × estimator.InLimits (header_at header) (estimator_at after) × ((estimator_at after).further ≡ (estimator_at before).further)

abbrev pub OfferWithin : Type 0
OfferWithin = (t header : List ℕ) (symbol : ℕ) (before output lent after left release : List ℕ) → Offer t header symbol before output lent 0 after left release
    → (length after ≡ enforcer_size) × (get_or after notion_place 0 ≤ strong_byte) × enforcer.InLimits (header_at header) (enforcer_at after)
    × ((enforcer_at after).estimator.further ≡ (enforcer_at before).estimator.further)

-- what stands past the count in the bytes of further secrets counts for nothing
abbrev pub FreshPastCount : Type 0
FreshPastCount = (t header a b estimator lent : List ℕ) (answer : ℕ) (s told : List ℕ) → length a ≡ further_size → length b ≡ further_size
    → cleared_of (further_at a 0) ≡ cleared_of (further_at b 0) → Fresh t header a estimator lent answer s told → Fresh t header b estimator lent answer s told

abbrev pub StartPastCount : Type 0
StartPastCount = (t header : List ℕ) (notion : ℕ) (a b enforcer : List ℕ) (answer : ℕ) (s : List ℕ) → length a ≡ further_size → length b ≡ further_size
    → cleared_of (further_at a 0) ≡ cleared_of (further_at b 0) → Start t header notion a enforcer answer s → Start t header notion b enforcer answer s

abbrev pub ExplorePastCount : Type 0
ExplorePastCount = (t header a b : List ℕ) (budget : ℕ) (lent : List ℕ) (answer : ℕ) (out : List ℕ) → length a ≡ further_size → length b ≡ further_size
    → cleared_of (further_at a 0) ≡ cleared_of (further_at b 0) → Explore t header a budget lent answer out → Explore t header b budget lent answer out

abbrev pub FirstLeakPastCount : Type 0
FirstLeakPastCount = (t header : List ℕ) (notion : ℕ) (a b events lent : List ℕ) → length a ≡ further_size → length b ≡ further_size
    → cleared_of (further_at a 0) ≡ cleared_of (further_at b 0) → (answer : ℕ) (out : List ℕ) → FirstLeakCall t header notion a events lent answer out
    → FirstLeakCall t header notion b events lent answer out
