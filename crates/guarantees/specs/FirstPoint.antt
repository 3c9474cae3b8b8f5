-- THE MISSION'S FIRST POINT, for each entry and every input: a numbered refusal comes on its stated condition and on no other, in the order of the refusal
-- table, and leaves the state and all lent memory as they were. (The entries demand nothing of their callers; what stands left of each arrow below is the
-- contract that the entry is proved to meet on every input.)
use Rattle.std.specs.Prelude.{◌≡◌, true, false, List, ◌∷◌, [], ◌++◌, ◌⊎◌, ◌↔◌, ℕ, ◌+◌, ◌≤◌, ◌<◌, length, take, drop}
use Rattle.lists.specs.Calls.{Every}
use Rattle.opacity.specs.Verdicts.{Bounded}
use Rattle.refusal.specs.Refusals.{number_of}
use Rattle.refusal.specs.declared.Refusal.{Refusal}
use Rattle.bitfields.specs.Bits.{bits_of}
use Rattle.bitfields.specs.Parser as parser
use Rattle.encoding.specs.Encoding.{Encoding, encoding}
use Rattle.encoding.specs.Table.{Holds}
use Rattle.encoding.specs.Answers.{header_of}
use Rattle.decoding.specs.Decoding.{Outcome, accept, refuse, no_header, Decoding}
use Rattle.canonical.specs.Meanings.{Meaning, Means, canonical_bytes}
use Rattle.canonical.specs.Writing as writing
use Rattle.canonical.specs.Writing.{FormWritten, Writing}
use Rattle.automaton.specs.Run.{automaton_of, Impossible, Observable, WellFormed}
use Rattle.automaton.specs.Reaching.{SizeWithin}
use Rattle.automaton.specs.declared.Header.{Header}
use Rattle.opacity.specs.declared.Notion.{Notion}
use Rattle.opacity.specs.declared.Further.{Further}
use Rattle.opacity.specs.Secrets.{secrets_of, ForEach, look_back_of, cleared_of, Allowed, TooLarge}
use Rattle.verifier.specs.declared.Estimator.{Estimator}
use Rattle.verifier.specs.Estimators as estimator
use Rattle.verifier.specs.Replies as verifier
use Rattle.verifier.specs.Replies.{Findings, told_at, Opening, Accepting, AcceptingBy}
use Rattle.enforcer.specs.declared.Enforcer.{Enforcer}
use Rattle.enforcer.specs.declared.Release.{Release}
use Rattle.enforcer.specs.Enforcers as enforcer
use Rattle.enforcer.specs.Offerings as offering
use Rattle.enforcer.specs.Offerings.{OpensAsLeak, Starting, Offering}
use Rattle.explore.specs.Configurations.{MoreThan}
use Rattle.explore.specs.Explorations as exploring
use Rattle.explore.specs.Explorations.{limit_of, ExploredAll, Exploring}
use Rattle.leaks.specs.declared.Search.{Search}
use Rattle.leaks.specs.FirstLeaks as leaking
use Rattle.leaks.specs.FirstLeaks.{FirstLeak, NoneLeaks, Finding}
use Rattle.leaks.specs.Searches.{said_of, Within, Beginning, Advancing}
use Rattle.witness.specs.Answers.{Says, Told, Usable, InReachOf, IsWitness, CheckingIn, WritingIn}
use Rattle.witness.specs.Traces.{ExactWriting, ExactChecking}

-- `decoding::decode`, of an encoding (01: description): 9 exactly where the table has not 2,048 words; else what the layout says of the bytes: the refusal of
-- its first field or check that fails, or the header and a table with exactly the transitions that are listed. A refusal leaves the table, and hands back no
-- automaton's header
pub record LayoutRefuses (bytes : List ℕ) (n : ℕ) : Type 0 where
  pub refusal : Refusal
  pub number_is : number_of refusal ≡ n
  pub refuses : encoding (bits_of bytes) 0 ≡ parser.refused refusal

pub record LayoutAccepts (bytes : List ℕ) (h : Header) (after : List ℕ) : Type 0 where
  pub content : Encoding
  pub next : ℕ
  pub accepts : encoding (bits_of bytes) 0 ≡ parser.done content next
  pub header_is : h ≡ header_of content.front content.symbols
  pub holds : Holds content.transitions after

pub record DecodeAnswers (bytes table : List ℕ) (h : Header) (answer : Outcome) (after : List ℕ) : Type 0 where
  pub malformed : (answer ≡ refuse 9) ↔ (length table ≡ 2048 → ⊥)
  pub by_layout : length table ≡ 2048 → (n : ℕ) → (answer ≡ refuse n) ↔ LayoutRefuses bytes n
  pub accepted : (answer ≡ accept) ↔ ((length table ≡ 2048) × LayoutAccepts bytes h after)
  pub no_other : (n : ℕ) → answer ≡ refuse n → (n ≡ 9) ⊎ ((n ≡ 1) ⊎ ((n ≡ 3) ⊎ ((n ≡ 4) ⊎ ((n ≡ 5) ⊎ (n ≡ 12)))))
  pub unchanged : (n : ℕ) → answer ≡ refuse n → (after ≡ table) × (h ≡ no_header)

abbrev pub EveryDecode : Type 0
EveryDecode = (bytes table : List ℕ) (h : Header) (answer : Outcome) (after : List ℕ) → Decoding bytes table h answer after
    → DecodeAnswers bytes table h answer after

-- `Estimator::fresh`, with further secrets: 9, 13, 14, and what a refused one hands back is outside its limits on every automaton
pub record FreshAnswers (t : List ℕ) (h : Header) (f : Further) (says : verifier.Said) (s : Estimator) : Type 0 where
  pub malformed : (says ≡ verifier.refused 9) ↔ (WellFormed t h → ⊥)
  pub too_many_secrets : (says ≡ verifier.refused 13) ↔ (WellFormed t h × (3 < f.count))
  pub look_back_too_large : (says ≡ verifier.refused 14) ↔ (WellFormed t h × (f.count ≤ 3) × TooLarge f)
  pub no_other : (n : ℕ) → says ≡ verifier.refused n → (n ≡ 9) ⊎ ((n ≡ 13) ⊎ (n ≡ 14))
  pub unusable : (n : ℕ) → says ≡ verifier.refused n → verifier.Unusable s

abbrev pub EveryFresh : Type 0
EveryFresh = (t : List ℕ) (h : Header) (f : Further) (says : verifier.Said) (s : Estimator) → Opening t h f says s → FreshAnswers t h f says s

pub record AcceptedWithin (h : Header) (self : Estimator) (j : Findings) (after : Estimator) : Type 0 where
  pub same : after.further ≡ self.further
  pub limits : estimator.InLimits h after
  pub as_many : length j.each ≡ length (secrets_of h self.further)
  pub bounded : (notion : Notion) → ForEach (secrets_of h self.further) (λ i c. Bounded c.k (told_at notion j.each i))
  pub size : SizeWithin j.size

-- `Estimator::accept`, a symbol offered to an estimator: 9, 6, 7, the last of one that has grown; a refusal hands back the estimator as it was.
-- What is accepted leaves an estimator within its limits with the same further secrets, two verdicts for each secret from 0 to its K or none, and 1 to 64
-- states, whatever it grew from
pub record AcceptAnswers (t : List ℕ) (h : Header) (self : Estimator) (symbol : ℕ) (says : verifier.Said) (after : Estimator) : Type 0 where
  pub malformed : (says ≡ verifier.refused 9) ↔ (WellFormed t h × estimator.InLimits h self → ⊥)
  pub not_observable : (says ≡ verifier.refused 6) ↔ (WellFormed t h × estimator.InLimits h self × (Observable h symbol → ⊥))
  pub incompatible : (trace : List ℕ) → estimator.GrownOn t h trace self
      → (says ≡ verifier.refused 7) ↔ (WellFormed t h × estimator.InLimits h self × Observable h symbol × Impossible (automaton_of t h) (trace ++ symbol ∷ []))
  pub no_other : (n : ℕ) → says ≡ verifier.refused n → (n ≡ 9) ⊎ ((n ≡ 6) ⊎ (n ≡ 7))
  pub unchanged : (n : ℕ) → says ≡ verifier.refused n → after ≡ self
  pub accepted : (j : Findings) → says ≡ verifier.verdicts j → AcceptedWithin h self j after

abbrev pub EveryAccept : Type 0
EveryAccept = (t : List ℕ) (h : Header) (self : Estimator) (symbol : ℕ) (says : verifier.Said) (after : Estimator) → Accepting t h self symbol says after
    → AcceptAnswers t h self symbol says after

-- `Estimator::accept_by`, the same with the verdicts by one notion alone: refused as `accept` refuses
pub record AcceptByAnswers (t : List ℕ) (h : Header) (self : Estimator) (symbol : ℕ) (says : verifier.SaidBy) (after : Estimator) : Type 0 where
  pub malformed : (says ≡ verifier.refused-by 9) ↔ (WellFormed t h × estimator.InLimits h self → ⊥)
  pub not_observable : (says ≡ verifier.refused-by 6) ↔ (WellFormed t h × estimator.InLimits h self × (Observable h symbol → ⊥))
  pub incompatible : (trace : List ℕ) → estimator.GrownOn t h trace self
      → (says ≡ verifier.refused-by 7)
      ↔ (WellFormed t h × estimator.InLimits h self × Observable h symbol × Impossible (automaton_of t h) (trace ++ symbol ∷ []))
  pub no_other : (n : ℕ) → says ≡ verifier.refused-by n → (n ≡ 9) ⊎ ((n ≡ 6) ⊎ (n ≡ 7))
  pub unchanged : (n : ℕ) → says ≡ verifier.refused-by n → after ≡ self

abbrev pub EveryAcceptBy : Type 0
EveryAcceptBy = (notion : Notion) (t : List ℕ) (h : Header) (self : Estimator) (symbol : ℕ) (says : verifier.SaidBy) (after : Estimator)
    → AcceptingBy notion t h self symbol says after → AcceptByAnswers t h self symbol says after

-- `Enforcer::start`: 9, 13, 14, 8, and a refused one gives no enforcer
pub record StartAnswers (t : List ℕ) (h : Header) (f : Further) (notion : Notion) (says : offering.StartOutcome) (s : Enforcer) : Type 0 where
  pub malformed : (says ≡ offering.not_started 9) ↔ (WellFormed t h → ⊥)
  pub too_many_secrets : (says ≡ offering.not_started 13) ↔ (WellFormed t h × (3 < f.count))
  pub look_back_too_large : (says ≡ offering.not_started 14) ↔ (WellFormed t h × (f.count ≤ 3) × TooLarge f)
  pub initial_leak : (says ≡ offering.not_started 8) ↔ (WellFormed t h × Allowed f × OpensAsLeak notion (automaton_of t h) (secrets_of h f))
  pub no_other : (n : ℕ) → says ≡ offering.not_started n → (n ≡ 9) ⊎ ((n ≡ 13) ⊎ ((n ≡ 14) ⊎ (n ≡ 8)))
  pub unusable : (n : ℕ) → says ≡ offering.not_started n → offering.Unusable s

abbrev pub EveryStart : Type 0
EveryStart = (t : List ℕ) (h : Header) (f : Further) (notion : Notion) (says : offering.StartOutcome) (s : Enforcer) → Starting t h f notion says s
    → StartAnswers t h f notion says s

pub record ReleasedWithin (h : Header) (self : Enforcer) (byte : ℕ) (output : List ℕ) (r : Release) (after : Enforcer) (left : List ℕ) : Type 0 where
  pub same : after.estimator.further ≡ self.estimator.further
  pub limits : enforcer.InLimits h after
  pub balance : r.count + after.count ≡ self.count + 1
  pub front : left ≡ take r.count (enforcer.pending_of self ++ byte ∷ []) ++ drop r.count output
  pub rest : enforcer.pending_of after ≡ drop r.count (enforcer.pending_of self ++ byte ∷ [])
  pub size : SizeWithin r.size

-- `Enforcer::offer`, a symbol offered to an enforcer: 9, 10, 6, 7, the last of one that has grown; a refusal hands back the enforcer and
-- leaves the output as they were. What is accepted releases a beginning of what is pending with the new symbol behind, to the front of the output, and stays
-- within the limits, whatever it grew from
pub record OfferAnswers (t : List ℕ) (h : Header) (self : Enforcer) (byte : ℕ) (output : List ℕ) (says : offering.OfferOutcome) (after : Enforcer)
    (left : List ℕ) : Type 0 where
  pub malformed : (says ≡ offering.refused 9) ↔ (WellFormed t h × enforcer.InLimits h self → ⊥)
  pub output_too_small : (says ≡ offering.refused 10) ↔ (WellFormed t h × enforcer.InLimits h self × (length output < 17))
  pub not_observable : (says ≡ offering.refused 6) ↔ (WellFormed t h × enforcer.InLimits h self × (17 ≤ length output) × (Observable h byte → ⊥))
  pub incompatible : (notion : Notion) (trace : List ℕ) → enforcer.GrownOn notion t h trace self
      → (says ≡ offering.refused 7)
      ↔ (WellFormed t h × enforcer.InLimits h self × (17 ≤ length output) × Observable h byte × Impossible (automaton_of t h) (trace ++ byte ∷ []))
  pub no_other : (n : ℕ) → says ≡ offering.refused n → (n ≡ 9) ⊎ ((n ≡ 10) ⊎ ((n ≡ 6) ⊎ (n ≡ 7)))
  pub unchanged : (n : ℕ) → says ≡ offering.refused n → (after ≡ self) × (left ≡ output)
  pub accepted : (r : Release) → says ≡ offering.released r → ReleasedWithin h self byte output r after left

abbrev pub EveryOffer : Type 0
EveryOffer = (t : List ℕ) (h : Header) (self : Enforcer) (byte : ℕ) (output : List ℕ) (says : offering.OfferOutcome) (after : Enforcer) (left : List ℕ)
    → Offering t h self byte output says after left → OfferAnswers t h self byte output says after left

-- `explore::explore`, with further secrets and a budget (02, S-7): 9, 13, 14 as a fresh estimator; then 15 exactly where there are more different
-- configurations than the budget allows, as many as it says and 256 at most; else exactly their number, and for each notion the largest wait
pub record ExploreAnswers (t : List ℕ) (h : Header) (f : Further) (limit : ℕ) (says : exploring.Said) : Type 0 where
  pub malformed : (says ≡ exploring.refused 9) ↔ (WellFormed t h → ⊥)
  pub too_many_secrets : (says ≡ exploring.refused 13) ↔ (WellFormed t h × (3 < f.count))
  pub look_back_too_large : (says ≡ exploring.refused 14) ↔ (WellFormed t h × (f.count ≤ 3) × TooLarge f)
  pub budget_spent : (says ≡ exploring.refused 15) ↔ (WellFormed t h × Allowed f × MoreThan (automaton_of t h) (look_back_of h f) limit)
  pub explored : (number weak strong : ℕ) → (says ≡ exploring.explored number weak strong) ↔ ExploredAll t h f limit number weak strong
  pub no_other : (n : ℕ) → says ≡ exploring.refused n → (n ≡ 9) ⊎ ((n ≡ 13) ⊎ ((n ≡ 14) ⊎ (n ≡ 15)))

abbrev pub EveryExplore : Type 0
EveryExplore = (t : List ℕ) (h : Header) (f : Further) (budget : ℕ) (says : exploring.Said) → Exploring t h f (limit_of budget) says
    → ExploreAnswers t h f (limit_of budget) says

-- `leaks::first_leak`, with further secrets, a notion and a list of offered bytes (02, S-8): 9, 13, 14 as a fresh estimator, and no 8; else exactly the place
-- of the first accepted event whose verdict is a leak of a secret that is given, or that there is none
pub record FirstLeakAnswers (notion : Notion) (t : List ℕ) (h : Header) (f : Further) (bytes : List ℕ) (says : leaking.Said) : Type 0 where
  pub malformed : (says ≡ leaking.refused 9) ↔ (WellFormed t h → ⊥)
  pub too_many_secrets : (says ≡ leaking.refused 13) ↔ (WellFormed t h × (3 < f.count))
  pub look_back_too_large : (says ≡ leaking.refused 14) ↔ (WellFormed t h × (f.count ≤ 3) × TooLarge f)
  pub nowhere : (says ≡ leaking.nowhere) ↔ (WellFormed t h × Allowed f × NoneLeaks notion t h f bytes)
  pub found : (place : ℕ) → (says ≡ leaking.at place) ↔ (WellFormed t h × Allowed f × FirstLeak notion t h f bytes place)
  pub no_other : (n : ℕ) → says ≡ leaking.refused n → (n ≡ 9) ⊎ ((n ≡ 13) ⊎ (n ≡ 14))

abbrev pub EveryFirstLeak : Type 0
EveryFirstLeak = (notion : Notion) (t : List ℕ) (h : Header) (f : Further) (bytes : List ℕ) (says : leaking.Said) → Finding notion t h f bytes says
    → FirstLeakAnswers notion t h f bytes says

-- a search of no byte yet: the notion and the further secrets as they were given, no event counted and no leak found
pub record StartsFrom (notion : Notion) (h : Header) (f : Further) (s : Search) : Type 0 where
  pub by : s.notion ≡ notion
  pub same : s.estimator.further ≡ cleared_of f
  pub limits : estimator.InLimits h s.estimator
  pub counted : s.accepted ≡ 0
  pub not_found : s.found ≡ false

-- `Search::begin`, a search of no byte yet: refused as a fresh estimator is, and what a refused one hands back is outside its limits on every automaton; else
-- nothing is found
pub record BeginAnswers (notion : Notion) (t : List ℕ) (h : Header) (f : Further) (says : leaking.Said) (s : Search) : Type 0 where
  pub malformed : (says ≡ leaking.refused 9) ↔ (WellFormed t h → ⊥)
  pub too_many_secrets : (says ≡ leaking.refused 13) ↔ (WellFormed t h × (3 < f.count))
  pub look_back_too_large : (says ≡ leaking.refused 14) ↔ (WellFormed t h × (f.count ≤ 3) × TooLarge f)
  pub begun : (says ≡ leaking.nowhere) ↔ (WellFormed t h × Allowed f)
  pub starts : says ≡ leaking.nowhere → StartsFrom notion h f s
  pub no_place : (place : ℕ) → says ≡ leaking.at place → ⊥
  pub no_other : (n : ℕ) → says ≡ leaking.refused n → (n ≡ 9) ⊎ ((n ≡ 13) ⊎ (n ≡ 14))
  pub unusable : (n : ℕ) → says ≡ leaking.refused n → verifier.Unusable s.estimator

abbrev pub EveryBegin : Type 0
EveryBegin = (notion : Notion) (t : List ℕ) (h : Header) (f : Further) (says : leaking.Said) (s : Search) → Beginning notion t h f says s
    → BeginAnswers notion t h f says s

-- `Search::advance`, a block offered to a search: 9 exactly where it is outside its limits, and then it is as it was; else what it has found then, and it keeps
-- its notion and its further secrets, is within its limits, counts at most as many events more as the block has bytes, and stays as it was where none of them
-- is an observable symbol, whatever it grew from
pub record AdvancedWithin (h : Header) (self : Search) (bytes : List ℕ) (says : leaking.Said) (after : Search) : Type 0 where
  pub says_it : says ≡ said_of after
  pub by : after.notion ≡ self.notion
  pub same : after.estimator.further ≡ self.estimator.further
  pub limits : estimator.InLimits h after.estimator
  pub placed : after.found ≡ true → 1 ≤ after.accepted
  pub fewest : self.accepted ≤ after.accepted
  pub most : after.accepted ≤ self.accepted + length bytes
  pub unobserved : Every (λ b. Observable h b → ⊥) bytes → after ≡ self
  pub stays : self.found ≡ true → after ≡ self

pub record SearchAnswers (t : List ℕ) (h : Header) (self : Search) (bytes : List ℕ) (says : leaking.Said) (after : Search) : Type 0 where
  pub malformed : (says ≡ leaking.refused 9) ↔ (Within t h self (length bytes) → ⊥)
  pub no_other : (n : ℕ) → says ≡ leaking.refused n → n ≡ 9
  pub unchanged : (n : ℕ) → says ≡ leaking.refused n → after ≡ self
  pub searched : Within t h self (length bytes) → AdvancedWithin h self bytes says after

abbrev pub EverySearch : Type 0
EverySearch = (t : List ℕ) (h : Header) (self : Search) (bytes : List ℕ) (says : leaking.Said) (after : Search) → Advancing t h self bytes says after
    → SearchAnswers t h self bytes says after

-- `canonical::canonical`, of an encoding and an output (02, S-9): what the layout refuses comes first; then 10 exactly where the output is shorter than
-- the canonical form; else that form at the front of the output, the rest of it kept, and the number of its bytes. A refusal leaves the output
pub record FormTooLong (bytes output : List ℕ) : Type 0 where
  pub meaning : Meaning
  pub means : Means bytes meaning
  pub longer : length output < length (canonical_bytes meaning)

pub record CanonicalAnswers (bytes output : List ℕ) (answer : writing.Outcome) (after : List ℕ) : Type 0 where
  pub by_layout : (n : ℕ) → (n ≡ 10 → ⊥) → (answer ≡ writing.refuse n) ↔ LayoutRefuses bytes n
  pub output_too_small : (answer ≡ writing.refuse 10) ↔ FormTooLong bytes output
  pub written : (n : ℕ) → (answer ≡ writing.wrote n) ↔ FormWritten bytes output n after
  pub no_other : (n : ℕ) → answer ≡ writing.refuse n → (n ≡ 10) ⊎ ((n ≡ 1) ⊎ ((n ≡ 3) ⊎ ((n ≡ 4) ⊎ ((n ≡ 5) ⊎ (n ≡ 12)))))
  pub unchanged : (n : ℕ) → answer ≡ writing.refuse n → after ≡ output

abbrev pub EveryCanonical : Type 0
EveryCanonical = (bytes output : List ℕ) (answer : writing.Outcome) (after : List ℕ) → Writing bytes output answer after
    → CanonicalAnswers bytes output answer after

-- `witness::witness`, of an estimator, a secret by its number and a step (02, S-10): 9 exactly for a table, header and estimator that cannot be used; then 17
-- exactly where the secret is not given or the step is above its own K or above what is remembered, 10 exactly where the output has fewer than 2,172 bytes,
-- 16 exactly where no run excuses the system; else one. A refusal leaves the output
pub record WitnessAnswers (t : List ℕ) (h : Header) (s : Estimator) (notion : Notion) (number k : ℕ) (output : List ℕ) (said : Told) (after : List ℕ)
    : Type 0 where
  pub malformed : (said ≡ Told.refused 9) ↔ (Usable t h s → ⊥)
  pub others : Usable t h s → ExactWriting (InReachOf h s number k) (IsWitness t h s notion number k) output said after
  pub no_other : (n : ℕ) → said ≡ Told.refused n → (n ≡ 9) ⊎ ((n ≡ 17) ⊎ ((n ≡ 10) ⊎ (n ≡ 16)))
  pub unchanged : (n : ℕ) → said ≡ Told.refused n → after ≡ output

abbrev pub EveryWitness : Type 0
EveryWitness = (t : List ℕ) (h : Header) (s : Estimator) (notion : Notion) (number k : ℕ) (output : List ℕ) (said : Told) (after : List ℕ)
    → WritingIn t h s notion number k output said after → WitnessAnswers t h s notion number k output said after

-- `witness::check_witness`: 9 as above and no other refusal; else yes exactly where the bytes are such a run, and no exactly where they are not
pub record CheckAnswers (t : List ℕ) (h : Header) (s : Estimator) (notion : Notion) (number k start : ℕ) (bytes : List ℕ) (said : Says) : Type 0 where
  pub malformed : (said ≡ Says.refused 9) ↔ (Usable t h s → ⊥)
  pub others : Usable t h s → ExactChecking (InReachOf h s number k) (IsWitness t h s notion number k start) bytes said
  pub no_other : (n : ℕ) → said ≡ Says.refused n → n ≡ 9

abbrev pub EveryCheck : Type 0
EveryCheck = (t : List ℕ) (h : Header) (s : Estimator) (notion : Notion) (number k start : ℕ) (bytes : List ℕ) (said : Says)
    → CheckingIn t h s notion number k start bytes said → CheckAnswers t h s notion number k start bytes said
