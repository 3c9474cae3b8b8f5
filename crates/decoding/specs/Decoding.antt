-- The promise of `decode`: of bytes and a table, the header, the answer and the table after.
use Rattle.std.specs.Prelude.{ℕ, ◌≡◌, List, length, replicate, Result, Ok, Err}
use Rattle.refusal.specs.Refusals.{number_of}
use Rattle.automaton.specs.declared.Header.{Header}
use Rattle.refusal.specs.declared.Refusal.{Refusal}
use Rattle.bitfields.specs.Bits.{bits_of}
use Rattle.bitfields.specs.Parser as parser
use Rattle.encoding.specs.Encoding.{Encoding, encoding}
use Rattle.encoding.specs.Table.{Holds}
use Rattle.encoding.specs.Answers.{header_of}
use Rattle.decoding.specs.declared.Decoded.{Decoded}

-- what decoding answers: accepted, or refused with a number
pub data Outcome : Type 0 where
  accept : Outcome
  refuse : ℕ → Outcome

-- the number that 01's table gives an answer
abbrev pub answer_means : Result (Unit {0}) Refusal → Outcome
answer_means (Ok u) = accept
answer_means (Err r) = refuse (number_of r)

-- what a refused call hands back beside its number: no automaton's header, since K is above 15 (Listing, no-header)
abbrev pub no_header : Header
no_header = record { initial = 0; k = 255; secret = 0; observable = 0; symbols = replicate 32 0 }

abbrev pub refused_by : Refusal → Decoded
refused_by r = record { header = no_header; answer = Err r }

pub data Decoding (bytes table : List ℕ) : Header → Outcome → List ℕ → Type 0 where
  -- 9: the table has not 2,048 words
  malformed : (length table ≡ 2048 → ⊥) → Decoding bytes table no_header (refuse 9) table
  -- rows 1, 3, 4, 5 and 12 of the refusal table in one: the layout (Encoding) gives the refusal of the first field or check that refuses
  refused : length table ≡ 2048 → (r : Refusal) → encoding (bits_of bytes) 0 ≡ parser.refused r → Decoding bytes table no_header (refuse (number_of r)) table
  -- the header that is encoded, and a table that holds exactly the transitions that are listed
  accepted : length table ≡ 2048 → (e : Encoding) (next : ℕ) → encoding (bits_of bytes) 0 ≡ parser.done e next
      → (after : List ℕ) → Holds e.transitions after → Decoding bytes table (header_of e.front e.symbols) accept after
