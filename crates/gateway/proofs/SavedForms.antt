-- What a call of canonical says of its bytes: it is the library's writing and back, its answer is the only one, and what it wrote decodes to the same table
-- and header. Assumes nothing.
use Prim.Native.Nat.{ℕ}
use mathlib.Core.Path.{◌≡◌, refl, ap, sym, subst, ◌∙◌}
use mathlib.Core.List.{List}
use native.Mathlib.Omega.{arith}
use lib.ListN.{length, take}
use Rattle.automaton.specs.declared.Header.{Header}
use Rattle.bitfields.specs.Bits.{bits_of}
use Rattle.bitfields.specs.Parser.{Parsed}
use Rattle.bitfields.proofs.Parsing.{Never, never_both}
use Rattle.encoding.specs.Encoding.{Encoding}
use Rattle.decoding.specs.Decoding as decoding
use Rattle.decoding.specs.Decoding.{Decoding}
use Rattle.decoding.proofs.Refusing.{encoding_never}
use Rattle.decoding.proofs.Only.{one_decoding}
use Rattle.canonical.specs.Meanings.{Meaning, Means, meaning_of, canonical_bytes}
use Rattle.canonical.specs.Writing.{Outcome, wrote, refuse, Writing}
use Rattle.canonical.proofs.OneForm.{means_one}
use Rattle.canonical.proofs.Calls.{call_wrote, call_decodes, call_table, refused_how, one_writing}
use Rattle.layout.specs.Sizes.{header_size, written_size}
use Rattle.layout.specs.Layout.{header_bytes, written_at, written_bytes}
use Rattle.gateway.specs.Interface.{Decode, CanonicalCall, ByOutput}
use Rattle.gateway.proofs.Entries.{size_saved}
use Rattle.gateway.proofs.Numbered.{not_zero}

-- writing refuses by no number 0
form_not_zero : (bytes output : List ℕ) {n : ℕ} {after : List ℕ} → Writing bytes output (refuse n) after → n ≡ 0 → ⊥
form_not_zero bytes output (Writing.refused r e) =
    subst (λ (p : Parsed Encoding). Never 0 p) e (encoding_never 0 refl (bits_of bytes) (λ z. omega arith) 0)
form_not_zero bytes output (Writing.too_small e next is few) = λ z. omega arith

-- where the call answered 0 the library wrote, as many bytes as the size's bytes hold
pub canonical_back : (encoding output lent after out : List ℕ) → CanonicalCall encoding output lent 0 after out
    → Writing encoding output (wrote (written_at out)) after
canonical_back encoding output lent after out (CanonicalCall.refused size x) = absurd (form_not_zero encoding output x refl)
canonical_back encoding output lent after out (CanonicalCall.written size x saved) =
    subst (λ (n : ℕ). Writing encoding output (wrote n) after) (sym saved.back) x

-- and what the library writes is such a call
pub canonical-of : (encoding output lent after : List ℕ) (n : ℕ) → length lent ≡ written_size → Writing encoding output (wrote n) after
    → CanonicalCall encoding output lent 0 after (written_bytes n)
canonical-of encoding output lent after n size x = CanonicalCall.written size x (size_saved encoding output after n x)

-- the number that an outcome holds, and an outcome that holds a size is no refusal
abbrev number_in : Outcome → ℕ
number_in (refuse n) = n
number_in (wrote n) = n

not_wrote : {m n : ℕ} → wrote m ≡ refuse n → ⊥
not_wrote e = subst Wrote e tt
  where
    Wrote : Outcome → Type 0
    Wrote (refuse n) = ⊥
    Wrote (wrote n) = Unit {0}

-- ONE ANSWER ONLY
pub one_canonical : (encoding output lent : List ℕ) {a b : ℕ} {after after' out out' : List ℕ} → CanonicalCall encoding output lent a after out
    → CanonicalCall encoding output lent b after' out' → (a ≡ b) × (after ≡ after') × (out ≡ out')
one_canonical encoding output lent (CanonicalCall.size bad) (CanonicalCall.size worse) = (refl, refl, refl)
one_canonical encoding output lent (CanonicalCall.size bad) (CanonicalCall.refused size x) = absurd (bad size)
one_canonical encoding output lent (CanonicalCall.size bad) (CanonicalCall.written size x saved) = absurd (bad size)
one_canonical encoding output lent (CanonicalCall.refused size x) (CanonicalCall.size bad) = absurd (bad size)
one_canonical encoding output lent (CanonicalCall.refused size x) (CanonicalCall.refused size' y) =
    (ap number_in (one_writing encoding output x y).0, refl, refl)
one_canonical encoding output lent (CanonicalCall.refused size x) (CanonicalCall.written size' y saved) =
    absurd (not_wrote (one_writing encoding output y x).0)
one_canonical encoding output lent (CanonicalCall.written size x saved) (CanonicalCall.size bad) = absurd (bad size)
one_canonical encoding output lent (CanonicalCall.written size x saved) (CanonicalCall.refused size' y) =
    absurd (not_wrote (one_writing encoding output x y).0)
one_canonical encoding output lent (CanonicalCall.written size x saved) (CanonicalCall.written size' y saved') =
    let one = one_writing encoding output x y in
    (refl, one.1, ap (λ (o : Outcome). written_bytes (number_in o)) one.0)

-- an encoding that a decode accepts has a meaning
decode_means : (encoding table before t header : List ℕ) → Decode encoding table before 0 t header → (m : Meaning) × Means encoding m
decode_means encoding table before t header (Decode.refused size x) = absurd (not_zero encoding table x refl)
decode_means encoding table before t header (Decode.accepted size (Decoding.accepted sized e next is after holds)) =
    (meaning_of e, record { encoded = e; next = next; decodes = is; meaning = refl })

-- an encoding with a meaning: 0 or 10, each on its condition
by_output : (encoding output lent : List ℕ) (answer : ℕ) (after out : List ℕ) (m : Meaning) → Means encoding m → length lent ≡ written_size
    → CanonicalCall encoding output lent answer after out → ByOutput (canonical_bytes m) output answer
by_output encoding output lent answer after out m means size (CanonicalCall.size bad) = absurd (bad size)
by_output encoding output lent answer after out m means size (CanonicalCall.refused _ x) =
    let how = refused_how encoding output output answer m means x in
    subst (λ (n : ℕ). ByOutput (canonical_bytes m) output n) (sym how.0) (ByOutput.too_small how.1)
by_output encoding output lent answer after out m means size (CanonicalCall.written _ {n = n} x saved) =
    let c = call_wrote encoding output after n x in
    let same = means_one encoding c.meaning m c.means means in
    ByOutput.written (omega (arith, c.number_is, c.fits, ap (λ (y : Meaning). length (canonical_bytes y)) same))

-- so after a decode that answered 0, with 8 bytes for the size
pub canonical_by_output : (encoding table before t header output lent : List ℕ) (answer : ℕ) (after out : List ℕ)
    → Decode encoding table before 0 t header → length lent ≡ written_size → CanonicalCall encoding output lent answer after out
    → (m : Meaning) × Means encoding m × ByOutput (canonical_bytes m) output answer
canonical_by_output encoding table before t header output lent answer after out d size x =
    let (m, means) = decode_means encoding table before t header d in
    (m, means, by_output encoding output lent answer after out m means size x)

-- bytes with a meaning are not refused by decoding into a table of 2,048 words
not_refused : (bytes table : List ℕ) (m : Meaning) {h : Header} {n : ℕ} {after : List ℕ} → Means bytes m → length table ≡ 2048
    → Decoding bytes table h (decoding.refuse n) after → ⊥
not_refused bytes table m x size (Decoding.malformed bad) = bad size
not_refused bytes table m x size (Decoding.refused _ r e) = never_both (sym e ∙ x.decodes)

-- WHAT WAS WRITTEN IS THE SAME AUTOMATON: decoded with slices of their lengths it is accepted, with the same table and the same header's bytes
pub canonical_decodes : (encoding table before t header output lent after out : List ℕ) (table' before' : List ℕ) (answer : ℕ) (t' header' : List ℕ)
    → Decode encoding table before 0 t header → CanonicalCall encoding output lent 0 after out → length table' ≡ 2048 → length before' ≡ header_size
    → Decode (take (written_at out) after) table' before' answer t' header' → (answer ≡ 0) × (t' ≡ t) × (header' ≡ header)
canonical_decodes encoding table before t header output lent after out table' before' answer t' header' d x words size (Decode.size bad) = absurd (bad size)
canonical_decodes encoding table before t header output lent after out table' before' answer t' header' d x words size (Decode.refused _ z) =
    let (m, means) = decode_means encoding table before t header d in
    let read = call_decodes encoding output after (written_at out) m (canonical_back encoding output lent after out x) means in
    absurd (not_refused (take (written_at out) after) table' m read words z)
canonical_decodes encoding table before t header output lent after out table' before' answer t' header' (Decode.refused _ y) x words size
    (Decode.accepted _ z) = absurd (not_zero encoding table y refl)
canonical_decodes encoding table before t header output lent after out table' before' answer t' header' (Decode.accepted _ y) x words size
    (Decode.accepted _ z) =
    let same = one_decoding (take (written_at out) after) table' z
    (call_table encoding output after (written_at out) table table' _ t (canonical_back encoding output lent after out x) y words) in
    (refl, same.table, ap header_bytes same.header)
