-- ONE ENCODING FOR ONE AUTOMATON (02, S-9): what is promised of what `canonical` writes, the first n bytes of the output, n being its answer.
use Rattle.std.specs.Prelude.{◌≡◌, List, ◌++◌, ◌↔◌, ℕ, ◌≤◌, ◌<◌, length, take, drop}
use Rattle.automaton.specs.declared.Header.{Header}
use Rattle.refusal.specs.declared.Refusal.{Refusal}
use Rattle.bitfields.specs.Bits.{bits_of}
use Rattle.bitfields.specs.Parser.{done, refused}
use Rattle.encoding.specs.Transitions.{listed}
use Rattle.encoding.specs.Encoding.{Encoding, encoding}
use Rattle.encoding.specs.declared.ListedTransition.{ListedTransition}
use Rattle.decoding.specs.Decoding.{accept, Decoding}
use Rattle.encode.specs.Order.{Ascending}
use Rattle.canonical.specs.Meanings.{Meaning, meaning_of, Means, SameAutomaton, InForm, canonical_of, canonical_bytes}
use Rattle.canonical.specs.Writing.{Outcome, wrote, refuse, Writing}

-- an encoding and an output have one answer, and one output after
pub record OneAnswer (r r' : Outcome) (after after' : List ℕ) : Type 0 where
  pub answer : r ≡ r'
  pub output : after ≡ after'

abbrev pub OneWriting : Type 0
OneWriting = (bytes output : List ℕ) (r r' : Outcome) (after after' : List ℕ) → Writing bytes output r after → Writing bytes output r' after'
    → OneAnswer r r' after after'

-- "What is written reads back as that plan": it decodes, with the same meaning
abbrev pub WrittenDecodes : Type 0
WrittenDecodes = (bytes output after : List ℕ) (n : ℕ) (m : Meaning) → Writing bytes output (wrote n) after → Means bytes m → Means (take n after) m

-- and is in the form, clause by clause
abbrev pub WrittenInForm : Type 0
WrittenInForm = (bytes output after : List ℕ) (n : ℕ) (e : Encoding) (next : ℕ) → Writing bytes output (wrote n) after
    → encoding (bits_of (take n after)) 0 ≡ done e next → InForm e

-- of all encodings that are accepted and mean the same, one is in the form
abbrev pub OneInForm : Type 0
OneInForm = (bytes : List ℕ) (e : Encoding) (next : ℕ) → encoding (bits_of bytes) 0 ≡ done e next → InForm e → e ≡ canonical_of (meaning_of e)

-- for the verifier and the enforcer it is the same header and the same table
abbrev pub SameTable : Type 0
SameTable = (bytes output after : List ℕ) (n : ℕ) (table other : List ℕ) (h : Header) (t : List ℕ) → Writing bytes output (wrote n) after
    → Decoding bytes table h accept t → length other ≡ 2048 → Decoding (take n after) other h accept t

-- "writing it again changes no byte": where there is space for them the same bytes are written, and as many; and else it is refused by 10
abbrev pub WrittenAgain : Type 0
WrittenAgain = (bytes output after : List ℕ) (n : ℕ) (again : List ℕ) → Writing bytes output (wrote n) after → n ≤ length again
    → Writing (take n after) again (wrote n) (take n after ++ drop n again)

abbrev pub AgainTooSmall : Type 0
AgainTooSmall = (bytes output after : List ℕ) (n : ℕ) (again : List ℕ) → Writing bytes output (wrote n) after → length again < n
    → Writing (take n after) again (refuse 10) again

-- "Two accepted descriptions give equal bytes exactly when top numbers, K, initial state, secrets, seen events, lamps of seen events and, in whatever order,
-- moves are equal"
abbrev pub EqualBytes : Type 0
EqualBytes = (a b o p q r : List ℕ) (i j : ℕ) (d e : Encoding) (m n : ℕ) → Writing a o (wrote i) q → Writing b p (wrote j) r
    → encoding (bits_of a) 0 ≡ done d m → encoding (bits_of b) 0 ≡ done e n → (take i q ≡ take j r) ↔ SameAutomaton d e

-- and so the meanings, as one record
abbrev pub EqualMeanings : Type 0
EqualMeanings = (d e : Encoding) → (meaning_of d ≡ meaning_of e) ↔ SameAutomaton d e

-- "moves rising by from, event, to": the one list of the transitions that rises strictly
abbrev pub Rising : Type 0
Rising = (bytes : List ℕ) (m : Meaning) → Means bytes m → (ts : List ListedTransition)
    → (Ascending ts × ((t : ListedTransition) → listed t ts ≡ m.transitions t)) ↔ (ts ≡ (canonical_of m).transitions)

-- no form is longer than its encoding, nor than 2,210 bytes: an output of as many bytes has space for it
pub record Space (bytes : List ℕ) (m : Meaning) : Type 0 where
  pub of_encoding : length (canonical_bytes m) ≤ length bytes
  pub of_longest : length (canonical_bytes m) ≤ 2210

abbrev pub EverySpace : Type 0
EverySpace = (bytes : List ℕ) (m : Meaning) → Means bytes m → Space bytes m

-- bytes that are longer than any encoding are refused, and as their first 2,211 bytes, or more of them, are
pub record RefusedAlike (bytes : List ℕ) (n : ℕ) : Type 0 where
  pub refusal : Refusal
  pub all : encoding (bits_of bytes) 0 ≡ refused refusal
  pub some : encoding (bits_of (take n bytes)) 0 ≡ refused refusal

abbrev pub LongerRefused : Type 0
LongerRefused = (bytes : List ℕ) (n : ℕ) → 2210 < n → n ≤ length bytes → RefusedAlike bytes n
