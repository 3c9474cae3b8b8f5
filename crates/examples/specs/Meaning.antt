-- What a row of the table says: an automaton as 01 writes it, a question with its answer, and the statement over runs for which they stand. Where
-- no further secrets are named the automaton's own is the only one.
use Rattle.std.specs.Prelude.{◌≡◌, List, [], ◌∷◌, ◌++◌, ℕ, length, take}
use Rattle.automaton.specs.Run.{automaton_of, Possible, Observable, WellFormed}
use Rattle.automaton.specs.Reaching.{EstimateSize}
use Rattle.automaton.specs.declared.Header.{Header}
use Rattle.encoding.specs.declared.ListedTransition.{ListedTransition}
use Rattle.encoding.specs.Table.{Holds}
use Rattle.encoding.specs.Encoding.{Encoding, encoding}
use Rattle.encoding.specs.Answers.{header_of}
use Rattle.refusal.specs.Refusals.{number_of}
use Rattle.bitfields.specs.Bits.{bits_of}
use Rattle.bitfields.specs.Parser.{Parsed, done, refused}
use Rattle.opacity.specs.declared.Notion.{Notion}
use Rattle.opacity.specs.declared.Notion.TheVariants.{Weak, Strong}
use Rattle.opacity.specs.declared.Further.{Further}
use Rattle.opacity.specs.Secrets.{own, secrets_of, ForEach, no_further, Allowed}
use Rattle.opacity.specs.Verdicts.{Steps, none, leak, Tells}
use Rattle.verifier.specs.Replies.{Told}
use Rattle.verifier.specs.Calls.{Call, Right, AllAnswered}
use Rattle.enforcer.specs.SafePrefix.{Safe, SafeForAll}
use Rattle.enforcer.specs.Queues.{Longest}
use Rattle.enforcer.specs.Offerings.{StartOutcome, started, not_started, OpensAsLeak}

-- an automaton: its transitions as they are listed, and its header
pub record Example : Type 0 where
  pub transitions : List ListedTransition
  pub header : Header

pub data Question : Type 0 where
  -- the verdicts of a trace, and how many states are possible after it
  verdicts_of : (trace : List ℕ) (weak strong : Steps) (size : ℕ) → Question
  -- the answers to bytes that are offered one after another, once the trace is accepted
  answers_after : (trace : List ℕ) → List Call → Question
  -- the answer to a start of the enforcer
  start_of : Notion → StartOutcome → Question
  -- the symbols that an enforcer releases with each symbol of a trace
  releases_of : Notion → (trace : List ℕ) → List (List ℕ) → Question
  -- so with further secrets (02, S-6): two verdicts for each, the automaton's own first; a start; and what an enforcer releases
  verdicts_of_all : Further → (trace : List ℕ) → List Told → (size : ℕ) → Question
  start_for_all : Further → Notion → StartOutcome → Question
  releases_for_all : Further → Notion → (trace : List ℕ) → List (List ℕ) → Question

-- the verdicts and the number of possible states are those of the definition; some run is compatible with the trace, so that no leak is an empty
-- statement
pub record VerdictsAre (t : List ℕ) (h : Header) (trace : List ℕ) (v w : Steps) (n : ℕ) : Type 0 where
  pub possible : Possible (automaton_of t h) trace
  pub weak : Tells Weak (automaton_of t h) (own h) trace v
  pub strong : Tells Strong (automaton_of t h) (own h) trace w
  pub size : EstimateSize (automaton_of t h) trace n

-- each byte gets the answer that the verifier owes it after the bytes accepted before it; a refused byte is not one of these
pub record AnswersAre (t : List ℕ) (h : Header) (trace : List ℕ) (calls : List Call) : Type 0 where
  pub possible : Possible (automaton_of t h) trace
  pub answered : AllAnswered t h no_further trace calls

-- a start is refused with 8 where the empty trace has leak 0, and gives an enforcer where it has none
abbrev pub Opened : List ℕ → Header → Notion → StartOutcome → Type 0
Opened t h notion started = Tells notion (automaton_of t h) (own h) [] none
Opened t h notion (not_started n) = (n ≡ 8) × Tells notion (automaton_of t h) (own h) [] (leak 0)

pub record StartIs (t : List ℕ) (h : Header) (notion : Notion) (answer : StartOutcome) : Type 0 where
  pub possible : Possible (automaton_of t h) []
  pub opened : Opened t h notion answer

-- the symbols `out` are the longest safe prefix of the accepted trace
pub record ReleasedIs (t : List ℕ) (h : Header) (notion : Notion) (trace out : List ℕ) : Type 0 where
  pub possible : Possible (automaton_of t h) trace
  pub prefix : out ≡ take (length out) trace
  pub longest : Longest (Safe notion (automaton_of t h) (own h)) trace (length out)

-- after the accepted symbols, of which `out` are released, each symbol of the rest is accepted in turn and releases what stands at its place. `Released`
-- says which symbols of the accepted ones are released
pub data EachReleases (h : Header) (Released : (accepted out : List ℕ) → Type 0) : (accepted out rest : List ℕ) → List (List ℕ) → Type 0 where
  end : {accepted out : List ℕ} → EachReleases h Released accepted out [] []
  more : {accepted out rest now : List ℕ} {e : ℕ} {later : List (List ℕ)} → Observable h e → Released (accepted ++ e ∷ []) (out ++ now)
      → EachReleases h Released (accepted ++ e ∷ []) (out ++ now) rest later → EachReleases h Released accepted out (e ∷ rest) (now ∷ later)

-- and the enforcer does start
pub record ReleasesAre (t : List ℕ) (h : Header) (notion : Notion) (trace : List ℕ) (events : List (List ℕ)) : Type 0 where
  pub start : StartIs t h notion started
  pub each : EachReleases h (ReleasedIs t h notion) [] [] trace events

-- with further secrets, which may be given: the verdicts and the number are those of the definition
pub record VerdictsOfAll (t : List ℕ) (h : Header) (f : Further) (trace : List ℕ) (vs : List Told) (n : ℕ) : Type 0 where
  pub allowed : Allowed f
  pub possible : Possible (automaton_of t h) trace
  pub right : Right t h f trace (record { each = vs; size = n })

-- a start is refused with 8 where some secret opens as leak 0, and gives an enforcer where none leaks
abbrev pub OpenedForAll : List ℕ → Header → Further → Notion → StartOutcome → Type 0
OpenedForAll t h f notion started = ForEach (secrets_of h f) (λ i c. Tells notion (automaton_of t h) c [] none)
OpenedForAll t h f notion (not_started n) = (n ≡ 8) × OpensAsLeak notion (automaton_of t h) (secrets_of h f)

pub record StartForAll (t : List ℕ) (h : Header) (f : Further) (notion : Notion) (answer : StartOutcome) : Type 0 where
  pub allowed : Allowed f
  pub possible : Possible (automaton_of t h) []
  pub opened : OpenedForAll t h f notion answer

-- the symbols `out` are the longest prefix of the accepted trace that is safe for every secret
pub record ReleasedForAll (t : List ℕ) (h : Header) (f : Further) (notion : Notion) (trace out : List ℕ) : Type 0 where
  pub possible : Possible (automaton_of t h) trace
  pub prefix : out ≡ take (length out) trace
  pub longest : Longest (SafeForAll notion (automaton_of t h) (secrets_of h f)) trace (length out)

pub record ReleasesForAll (t : List ℕ) (h : Header) (f : Further) (notion : Notion) (trace : List ℕ) (events : List (List ℕ)) : Type 0 where
  pub start : StartForAll t h f notion started
  pub each : EachReleases h (ReleasedForAll t h f notion) [] [] trace events

abbrev pub Says : List ℕ → Header → Question → Type 0
Says t h (verdicts_of trace weak strong size) = VerdictsAre t h trace weak strong size
Says t h (answers_after trace calls) = AnswersAre t h trace calls
Says t h (start_of notion answer) = StartIs t h notion answer
Says t h (releases_of notion trace events) = ReleasesAre t h notion trace events
Says t h (verdicts_of_all f trace vs size) = VerdictsOfAll t h f trace vs size
Says t h (start_for_all f notion answer) = StartForAll t h f notion answer
Says t h (releases_for_all f notion trace events) = ReleasesForAll t h f notion trace events

-- what a description says: an automaton, or the number of a refusal
pub data Contents : Type 0 where
  automaton : Example → Contents
  refusal : ℕ → Contents

abbrev pub contents_of : Parsed Encoding → Contents
contents_of (done e next) = automaton (record { transitions = e.transitions; header = header_of e.front e.symbols })
contents_of (refused r) = refusal (number_of r)

-- a row is about an automaton, or about the bytes of a description
pub data Row : Type 0 where
  about : Example → Question → Row
  description : (bytes : List ℕ) → Contents → Row

-- a table that holds the transitions, by the law that decoding keeps
pub record TableOf (ts : List ListedTransition) : Type 0 where
  pub table : List ℕ
  pub holds : Holds ts table

-- there is such a table, and with every such table and the header, which are an automaton, the answer is right
pub record AboutHolds (e : Example) (q : Question) : Type 0 where
  pub some : TableOf e.transitions
  pub well_formed : (t : List ℕ) → Holds e.transitions t → WellFormed t e.header
  pub says : (t : List ℕ) → Holds e.transitions t → Says t e.header q

-- and the layout reads from the bytes of a description what the row says
abbrev pub RowHolds : Row → Type 0
RowHolds (about e q) = AboutHolds e q
RowHolds (description bytes contents) = contents_of (encoding (bits_of bytes) 0) ≡ contents

abbrev pub All : List Row → Type 0
All [] = Unit {0}
All (r ∷ rs) = RowHolds r × All rs
