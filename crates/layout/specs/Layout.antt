-- The bytes of headers, further secrets, saved estimators, saved enforcers, judgements, releases, explorations, first leaks, written sizes, the runs of
-- witnesses and what their checker says: what is read from bytes (header_at ..), and the bytes that are written (header_bytes ..). A number of several bytes has
-- the least significant first. Sizes has every place and size.
use Rattle.std.specs.Prelude.{ℕ, zero, suc, ◌+◌, ◌*◌, ◌/◌, ◌%◌, ◌≤◌, ◌<◌, ◌^◌, ◌≡◌, Bool, true, false, cond, List, [], ◌∷◌, ◌++◌, map, eqb, length, get_or, take, drop}
use Rattle.std.proofs.lemmas.List.Edits.{sets}
use Rattle.automaton.specs.declared.Header.{Header}
use Rattle.opacity.specs.declared.Notion.{Notion}
use Rattle.opacity.specs.declared.Notion.TheVariants.{Weak, Strong}
use Rattle.opacity.specs.declared.Secret.{Secret}
use Rattle.opacity.specs.declared.Further.{Further}
use Rattle.verifier.specs.declared.Estimator.{Estimator}
use Rattle.opacity.specs.Secrets.{place_of}
use Rattle.opacity.specs.Verdicts.{Steps, none, leak}
use Rattle.verifier.specs.Replies.{Told, told_of, none_told, numbered, Findings}
use Rattle.enforcer.specs.declared.Enforcer.{Enforcer}
use Rattle.enforcer.specs.declared.Release.{Release}
use Rattle.explore.specs.declared.Exploration.{Exploration}
use Rattle.layout.specs.Sizes as sizes
use Rattle.verifier.specs.declared.Judgement.{Judgement}
use Rattle.opacity.specs.declared.Verdicts.{Verdicts}

-- a slice into which a text was stored from a place on; what stood elsewhere stays
pub record Stored (before : List ℕ) (at : ℕ) (text after : List ℕ) : Type 0 where
  pub is : after ≡ sets before at text

-- the number that n bytes write, from a place on
unfoldable pub little_endian_at : List ℕ → ℕ → ℕ → ℕ
little_endian_at bytes at zero = 0
little_endian_at bytes at (suc n) = get_or bytes at 0 + 256 * little_endian_at bytes (suc at) n

-- the n bytes that write a number
unfoldable pub little_endian_bytes : ℕ → ℕ → List ℕ
little_endian_bytes zero number = []
little_endian_bytes (suc n) number = number % 256 ∷ little_endian_bytes n (number / 256)

-- a word; and its bytes
abbrev pub word_at : List ℕ → ℕ → ℕ
word_at bytes at = little_endian_at bytes at sizes.word_size

abbrev pub word_bytes : ℕ → List ℕ
word_bytes word = little_endian_bytes sizes.word_size word

-- n words, from a place on; and their bytes
unfoldable pub words_at : List ℕ → ℕ → ℕ → List ℕ
words_at bytes at zero = []
words_at bytes at (suc n) = word_at bytes at ∷ words_at bytes (at + sizes.word_size) n

unfoldable pub words_bytes : List ℕ → List ℕ
words_bytes [] = []
words_bytes (w ∷ ws) = word_bytes w ++ words_bytes ws

-- n bytes as they are, from a place on
abbrev pub bytes_at : List ℕ → ℕ → ℕ → List ℕ
bytes_at bytes at n = take n (drop at bytes)

-- a header: the initial state, K, the secret set, the observable set, the symbols of all events
abbrev pub header_at : List ℕ → Header
header_at bytes =
    record {
      initial = get_or bytes sizes.initial_place 0;
      k = get_or bytes sizes.header_kPlace 0;
      secret = word_at bytes sizes.header_secret_place;
      observable = little_endian_at bytes sizes.observable_place sizes.half_size;
      symbols = bytes_at bytes sizes.symbols_place sizes.event_count;
    }

abbrev pub header_bytes : Header → List ℕ
header_bytes h = h.initial ∷ h.k ∷ word_bytes h.secret ++ (little_endian_bytes sizes.half_size h.observable ++ h.symbols)

-- one whose numbers fit their bytes and whose symbols are those of all events
pub record HeaderSized (h : Header) : Type 0 where
  pub secret : h.secret < 2 ^ 64
  pub observable : h.observable < 2 ^ 32
  pub symbols : length h.symbols ≡ sizes.event_count

-- a place for a further secret: the set of its states, its K
abbrev pub place_at : List ℕ → ℕ → Secret
place_at bytes at = record { states = word_at bytes at; k = get_or bytes (at + sizes.secret_kPlace) 0 }

abbrev pub place_bytes : Secret → List ℕ
place_bytes c = word_bytes c.states ++ c.k ∷ []

-- further secrets: how many are given, and three places
abbrev pub further_at : List ℕ → ℕ → Further
further_at bytes at =
    let first = place_at bytes (at + sizes.first_secret_place) in
    let second = place_at bytes (at + sizes.second_secret_place) in
    let third = place_at bytes (at + sizes.third_secret_place) in
    record {
      states = first.states ∷ second.states ∷ third.states ∷ [];
      k = first.k ∷ second.k ∷ third.k ∷ [];
      count = get_or bytes at 0;
    }

abbrev pub further_bytes : Further → List ℕ
further_bytes f = f.count ∷ place_bytes (place_of f 0) ++ (place_bytes (place_of f 1) ++ place_bytes (place_of f 2))

-- as the code has them: three places, and the sets are words
pub record FurtherSized (f : Further) : Type 0 where
  pub states : length f.states ≡ sizes.further_count
  pub k : length f.k ≡ sizes.further_count
  pub words : (j : ℕ) → get_or f.states j 0 < 2 ^ 64

-- an estimator: the number of remembered symbols, these, the newest first, a state set for each of them and one more, the further secrets
abbrev pub estimator_at : List ℕ → Estimator
estimator_at bytes =
    record {
      count = get_or bytes sizes.remembered_place 0;
      symbols = bytes_at bytes sizes.remembered_symbols_place sizes.most_remembered;
      entries = words_at bytes sizes.entries_place sizes.entry_count;
      further = further_at bytes sizes.further_place;
    }

abbrev pub estimator_bytes : Estimator → List ℕ
estimator_bytes s = s.count ∷ s.symbols ++ (words_bytes s.entries ++ further_bytes s.further)

-- an estimator as the code has it: the arrays have their sizes, and the state sets are words
pub record EstimatorSized (s : Estimator) : Type 0 where
  pub symbols : length s.symbols ≡ sizes.most_remembered
  pub entries : length s.entries ≡ sizes.entry_count
  pub words : (l : ℕ) → get_or s.entries l 0 < 2 ^ 64
  pub further : FurtherSized s.further

-- the bytes that a call leaves for an estimator, whatever it grew from: they have their length, and read back as it is, so that what is said of it, its
-- limits too, is said of the bytes
pub record EstimatorSaved (s : Estimator) : Type 0 where
  pub size : length (estimator_bytes s) ≡ sizes.estimator_size
  pub back : estimator_at (estimator_bytes s) ≡ s

-- a notion: a byte above that of strong is none
abbrev pub notion_at : ℕ → Notion
notion_at zero = Weak
notion_at (suc n) = Strong

abbrev pub notion_byte : Notion → ℕ
notion_byte Weak = sizes.weak_byte
notion_byte Strong = sizes.strong_byte

-- an enforcer: its estimator, its notion, the number of pending symbols, these, the oldest first, their waits
abbrev pub enforcer_at : List ℕ → Enforcer
enforcer_at bytes =
    record {
      estimator = estimator_at bytes;
      notion = notion_at (get_or bytes sizes.notion_place 0);
      count = get_or bytes sizes.pending_place 0;
      pending = bytes_at bytes sizes.pending_symbols_place sizes.most_pending;
      waits = bytes_at bytes sizes.waits_place sizes.most_pending;
    }

abbrev pub enforcer_bytes : Enforcer → List ℕ
enforcer_bytes s = estimator_bytes s.estimator ++ (notion_byte s.notion ∷ s.count ∷ s.pending ++ s.waits)

-- an enforcer as the code has it
pub record EnforcerSized (s : Enforcer) : Type 0 where
  pub estimator : EstimatorSized s.estimator
  pub pending : length s.pending ≡ sizes.most_pending
  pub waits : length s.waits ≡ sizes.most_pending

-- the bytes that a call leaves for an enforcer, likewise; and it is one as the code has it
pub record EnforcerSaved (s : Enforcer) : Type 0 where
  pub sized : EnforcerSized s
  pub size : length (enforcer_bytes s) ≡ sizes.enforcer_size
  pub notion_known : get_or (enforcer_bytes s) sizes.notion_place 0 ≤ sizes.strong_byte
  pub back : enforcer_at (enforcer_bytes s) ≡ s

-- a verdict: its steps, or the byte that says none
abbrev pub verdict_at : ℕ → Steps
verdict_at byte = cond (eqb byte sizes.no_leak_byte) none (leak byte)

abbrev pub verdict_byte : Steps → ℕ
verdict_byte none = sizes.no_leak_byte
verdict_byte (leak l) = l

-- the two verdicts of one secret
abbrev pub pair_at : List ℕ → ℕ → Told
pair_at bytes at = record { weak = verdict_at (get_or bytes at 0); strong = verdict_at (get_or bytes (at + sizes.strong_place) 0) }

abbrev pub told_bytes : Told → List ℕ
told_bytes v = verdict_byte v.weak ∷ verdict_byte v.strong ∷ []

-- a judgement, what an accepted answer of the verifier holds: the weak and the strong verdict of each of four secrets as they are numbered, of one that is
-- not given none, and how many states are possible
abbrev pub told_bytes_at : Findings → ℕ → List ℕ
told_bytes_at j i = told_bytes (get_or j.each i none_told)

abbrev pub judgement_bytes : Findings → List ℕ
judgement_bytes j = told_bytes_at j 0 ++ (told_bytes_at j 1 ++ (told_bytes_at j 2 ++ (told_bytes_at j 3 ++ j.size ∷ [])))

-- what a verifier's answer holds of all four places
abbrev pub all_findings : Judgement Verdicts → Findings
all_findings j = record { each = map told_of (numbered j.verdicts); size = j.size }

-- the verdicts and the number that its bytes hold, where so many further secrets are given
abbrev pub verdicts_at : (given : ℕ) → List ℕ → List Told
verdicts_at given told =
    take (suc given)
    (pair_at told sizes.own_verdicts_place
    ∷ pair_at told sizes.first_verdicts_place
    ∷ pair_at told sizes.second_verdicts_place
    ∷ pair_at told sizes.third_verdicts_place
    ∷ [])

abbrev pub judgement_at : (given : ℕ) → List ℕ → Findings
judgement_at given told = record { each = verdicts_at given told; size = get_or told sizes.judged_possible_place 0 }

-- a release, what an accepting answer of the enforcer holds: how many symbols were released, how many states are possible
abbrev pub release_bytes : Release → List ℕ
release_bytes r = r.count ∷ r.size ∷ []

abbrev pub release_at : List ℕ → Release
release_at bytes = record { count = get_or bytes sizes.released_place 0; size = get_or bytes sizes.released_possible_place 0 }

-- an exploration: the number of configurations, the largest weak wait, the largest strong one
abbrev pub exploration_bytes : Exploration → List ℕ
exploration_bytes e = little_endian_bytes sizes.explored_size e.number ++ e.weak ∷ e.strong ∷ []

abbrev pub exploration_at : List ℕ → Exploration
exploration_at bytes =
    record {
      number = little_endian_at bytes sizes.explored_place sizes.explored_size;
      weak = get_or bytes sizes.weak_wait_place 0;
      strong = get_or bytes sizes.strong_wait_place 0;
    }

-- the bytes that a call leaves for an exploration: they have their length, and read back as it is
pub record ExplorationSaved (e : Exploration) : Type 0 where
  pub size : length (exploration_bytes e) ≡ sizes.exploration_size
  pub back : exploration_at (exploration_bytes e) ≡ e

-- a first leak: the number of an accepted event, from 1, and 0 where there is none
abbrev pub first_leak_bytes : ℕ → List ℕ
first_leak_bytes place = word_bytes place

abbrev pub first_leak_at : List ℕ → ℕ
first_leak_at bytes = word_at bytes 0

-- a written size: how many bytes were written
abbrev pub written_bytes : ℕ → List ℕ
written_bytes size = word_bytes size

abbrev pub written_at : List ℕ → ℕ
written_at bytes = word_at bytes 0

-- the bytes that a call leaves for either: they have their length, and read back as it is
pub record NumberSaved (number : ℕ) : Type 0 where
  pub size : length (word_bytes number) ≡ sizes.word_size
  pub back : word_at (word_bytes number) 0 ≡ number

-- the run of a witness: the state it starts in and the number of its pairs
abbrev pub run_bytes : (start pairs : ℕ) → List ℕ
run_bytes start pairs = start ∷ little_endian_bytes sizes.run_pairs_size pairs

abbrev pub start_at : List ℕ → ℕ
start_at bytes = get_or bytes sizes.run_start_place 0

abbrev pub pairs_at : List ℕ → ℕ
pairs_at bytes = little_endian_at bytes sizes.run_pairs_place sizes.run_pairs_size

-- the bytes that a call leaves for it: they have their length, and read back as it is
pub record RunSaved (start pairs : ℕ) : Type 0 where
  pub size : length (run_bytes start pairs) ≡ sizes.run_size
  pub start_back : start_at (run_bytes start pairs) ≡ start
  pub pairs_back : pairs_at (run_bytes start pairs) ≡ pairs

-- what the checker of witnesses says: true is yes
abbrev pub valid_byte_of : Bool → ℕ
valid_byte_of false = sizes.invalid_byte
valid_byte_of true = sizes.valid_byte

abbrev pub valid_bytes : Bool → List ℕ
valid_bytes valid = valid_byte_of valid ∷ []

abbrev pub valid_at : List ℕ → Bool
valid_at bytes = eqb (get_or bytes sizes.valid_place 0) sizes.valid_byte
