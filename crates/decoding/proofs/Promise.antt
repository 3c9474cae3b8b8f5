-- The promise of `decode` at each of its returns.
use Prim.Native.Nat.{ℕ}
use mathlib.Core.Path.{◌≡◌, sym, subst}
use mathlib.Core.List.{List}
use lib.ListN.{length}
use Rattle.refusal.specs.Refusals.{number_of}
use Rattle.automaton.specs.declared.Header.{Header}
use Rattle.refusal.specs.declared.Refusal.{Refusal}
use Rattle.bitfields.specs.Bits.{bits_of}
use Rattle.encoding.specs.Transitions.{transitions_at}
use Rattle.encoding.specs.Encoding.{encoding}
use Rattle.encoding.specs.Table.{Holds, table_of}
use Rattle.encoding.specs.Answers.{encoding_means, preamble_end, given_symbols, header_of}
use Rattle.decoding.specs.Decoding.{accept, refuse, answer_means, no_header, refused_by, Decoding}
use Rattle.encoding.specs.declared.Front.{Front}
use Rattle.decoding.specs.declared.Decoded.{Decoded}
use Rattle.std.specs.Prelude.{Ok}
use Rattle.encoding.proofs.Ended.{encoding_in}
use Rattle.decoding.proofs.Stored.{holds}

-- what is promised of a refusal is promised of the struct that says it
pub refuses : (bytes table : List ℕ) (refusal : Refusal) {r : Decoded} → r ≡ refused_by refusal
    → Decoding bytes table no_header (refuse (number_of refusal)) table → Decoding bytes table r.header (answer_means r.answer) table
refuses bytes table refusal e d = subst (λ (x : Decoded). Decoding bytes table x.header (answer_means x.answer) table) (sym e) d

-- where the first pass accepted the front f, and the second read the header and filled the table from the end of the front and its symbols on
pub accepts : (bytes table after : List ℕ) (f : Front) (h : Header) → length table ≡ 2048 → encoding (bits_of bytes) 0 ≡ encoding_means (bits_of bytes) (Ok f)
    → after ≡ table_of (transitions_at (bits_of bytes) (preamble_end f) f.fixed.count) → h ≡ header_of f (given_symbols (bits_of bytes) f)
    → Decoding bytes table h accept after
accepts bytes table after f h size e t g =
    let ts = transitions_at (bits_of bytes) (preamble_end f) f.fixed.count in
    let kept : Holds ts (table_of ts) = holds bytes (preamble_end f) f.fixed.count (encoding_in bytes e).ends in
    subst (λ (x : Header). Decoding bytes table x accept after) (sym g) (Decoding.accepted size _ _ e after (subst (Holds ts) (sym t) kept))
