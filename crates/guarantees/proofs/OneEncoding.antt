-- The first point of `canonical`: each row of its contract on its condition, and the others' conditions fail there; and its refusals beside those of a
-- decode, of the functions on bytes. Assumes nothing.
use mathlib.Core.Path.{◌≡◌, refl, ap, subst, sym, ◌∙◌}
use mathlib.Core.List.{List, ◌++◌}
use mathlib.Core.Logic.{◌⊎◌, inl, inr}
use Prim.Native.Nat.{ℕ}
use native.Mathlib.Omega.{arith}
use lib.ListN.{length, drop}
use Rattle.refusal.specs.Refusals.{number_of}
use Rattle.refusal.specs.declared.Refusal.{Refusal}
use Rattle.bitfields.specs.Bits.{bits_of}
use Rattle.bitfields.specs.Parser as parser
use Rattle.bitfields.specs.Parser.{Parsed}
use Rattle.bitfields.proofs.Parsing.{Never, never_both}
use Rattle.encoding.specs.Encoding.{Encoding, encoding}
use Rattle.decoding.proofs.Refusing.{encoding_never}
use Rattle.canonical.specs.Meanings.{Meaning, Means, meaning_of, canonical_bytes}
use Rattle.canonical.specs.Writing.{Outcome, wrote, refuse, Writing}
use Rattle.decoding.proofs.Longer as longer
use Rattle.encode.proofs.Accepted.{accepted_valid}
use Rattle.canonical.proofs.OneForm as one_form
use Rattle.canonical.proofs.Clauses as clauses
use Rattle.canonical.proofs.Calls as calls
use Rattle.automaton.specs.declared.Header.{Header}
use Rattle.decoding.specs.Decoding as decoding
use Rattle.decoding.specs.Decoding.{Decoding}
use Rattle.gateway.specs.Interface.{Decode, CanonicalCall}
use Rattle.guarantees.specs.FirstPoint.{LayoutRefuses, EveryCanonical}
use Rattle.guarantees.specs.SavedBytes.{CanonicalAsDecode}
use Rattle.guarantees.specs.OneEncoding.{OneWriting, OneInForm, EqualBytes, EverySpace, LongerRefused}
use Rattle.guarantees.proofs.Answers.{one_refusal, by_five, not_nine}

-- refusals with one number, written bytes with one, and a refusal is no writing
same_refuse : {m n : ℕ} → refuse m ≡ refuse n → m ≡ n
same_refuse e = ap number e
  where
    number : Outcome → ℕ
    number (refuse n) = n
    number (wrote n) = 0

same_wrote : {m n : ℕ} → wrote m ≡ wrote n → m ≡ n
same_wrote e = ap number e
  where
    number : Outcome → ℕ
    number (refuse n) = 0
    number (wrote n) = n

not_wrote : {m n : ℕ} → wrote m ≡ refuse n → ⊥
not_wrote e = subst Writes e tt
  where
    Writes : Outcome → Type 0
    Writes (refuse n) = ⊥
    Writes (wrote n) = Unit {0}

-- the layout refuses by none but its five
abbrev Number : ℕ → Type 0
Number n = (n ≡ 10) ⊎ ((n ≡ 1) ⊎ ((n ≡ 3) ⊎ ((n ≡ 4) ⊎ ((n ≡ 5) ⊎ (n ≡ 12)))))

layout_numbers : (bytes : List ℕ) (r : Refusal) → encoding (bits_of bytes) 0 ≡ parser.refused r → Number (number_of r)
layout_numbers bytes r is = go (by_five bytes r is)
  where
    go : (number_of r ≡ 9) ⊎ ((number_of r ≡ 1) ⊎ ((number_of r ≡ 3) ⊎ ((number_of r ≡ 4) ⊎ ((number_of r ≡ 5) ⊎ (number_of r ≡ 12))))) → Number (number_of r)
    go (inl nine) = absurd (not_nine bytes r is nine)
    go (inr others) = inr others

-- what accepted bytes mean, and how long its form is
meant : {bytes : List ℕ} {e : Encoding} {next : ℕ} → encoding (bits_of bytes) 0 ≡ parser.done e next → Means bytes (meaning_of e)
meant {e = e} {next = next} is = record { encoded = e; next = next; decodes = is; meaning = refl }

one_length : {bytes : List ℕ} {m n : Meaning} → Means bytes m → Means bytes n → length (canonical_bytes m) ≡ length (canonical_bytes n)
one_length {bytes} {m} {n} x y = ap (λ (z : Meaning). length (canonical_bytes z)) (one_form.means_one bytes m n x y)

not_ten : (bytes : List ℕ) (r : Refusal) → encoding (bits_of bytes) 0 ≡ parser.refused r → number_of r ≡ 10 → ⊥
not_ten bytes r e = subst (λ (p : Parsed Encoding). Never 10 p) e (encoding_never 10 refl (bits_of bytes) (λ x. omega arith) 0)

pub canonical_answers : EveryCanonical
canonical_answers bytes output answer after (Writing.refused r is) = record {
  by_layout = λ n other. (
    λ e. record { refusal = r; number_is = same_refuse e; refuses = is },
    λ y. ap refuse (ap number_of (one_refusal (sym is ∙ y.refuses)) ∙ y.number_is),
  );
  output_too_small = (λ e. absurd (not_ten bytes r is (same_refuse e)), λ x. absurd (never_both (sym is ∙ x.means.decodes)));
  written = λ n. (λ e. absurd (not_wrote (sym e)), λ x. absurd (never_both (sym is ∙ x.means.decodes)));
  no_other = λ n e. subst Number (same_refuse e) (layout_numbers bytes r is);
  unchanged = λ n e. refl;
}
canonical_answers bytes output answer after (Writing.too_small d next is short) = record {
  by_layout = λ n other. (λ e. absurd (other (sym (same_refuse e))), λ y. absurd (never_both (sym y.refuses ∙ is)));
  output_too_small = (λ e. record { meaning = meaning_of d; means = meant is; longer = short }, λ x. refl);
  written = λ n. (λ e. absurd (not_wrote (sym e)), λ x. absurd (omega (arith, x.fits, x.number_is, one_length (meant is) x.means)));
  no_other = λ n e. inl (sym (same_refuse e));
  unchanged = λ n e. refl;
}
canonical_answers bytes output answer after (Writing.written d next is fits) = record {
  by_layout = λ n other. (λ e. absurd (not_wrote e), λ y. absurd (never_both (sym y.refuses ∙ is)));
  output_too_small = (λ e. absurd (not_wrote e), λ x. absurd (omega (arith, x.longer, one_length (meant is) x.means)));
  written = λ n. (
    λ e. record {
      meaning = meaning_of d;
      means = meant is;
      number_is = sym (same_wrote e);
      fits = omega (arith, same_wrote e);
      after_is = ap (λ (k : ℕ). canonical_bytes (meaning_of d) ++ drop k output) (same_wrote e);
    },
    λ x. ap wrote (one_length (meant is) x.means ∙ sym x.number_is),
  );
  no_other = λ n e. absurd (not_wrote e);
  unchanged = λ n e. absurd (not_wrote e);
}

pub one_writing : OneWriting
one_writing bytes output r r' after after' x y = let one = calls.one_writing bytes output x y in record { answer = one.0; output = one.1 }

pub one_in_form : OneInForm
one_in_form bytes e next is form = clauses.one_in_form e (accepted_valid bytes is) form

pub equal_bytes : EqualBytes
equal_bytes a b o p q r i j d e m n w v = calls.call_same a b o p q r i j w v

pub every_space : EverySpace
every_space bytes m x = record { of_encoding = one_form.form_no_longer bytes m x; of_longest = one_form.form_longest bytes m x }

pub longer_refused : LongerRefused
longer_refused bytes n h l =
    let r = longer.longer_refused bytes (omega arith) in
    record { refusal = r.0; all = r.1; some = longer.longer_take bytes n h l ∙ r.1 }

-- the functions on bytes: where the layout refuses, both answer its number
layout_refused : (encoding table : List ℕ) {h : Header} {n : ℕ} {t : List ℕ} → length table ≡ 2048 → Decoding encoding table h (decoding.refuse n) t
    → LayoutRefuses encoding n
layout_refused encoding table size (Decoding.malformed bad) = absurd (bad size)
layout_refused encoding table size (Decoding.refused _ r is) = record { refusal = r; number_is = refl; refuses = is }

refused_alike : (encoding output : List ℕ) {m n : ℕ} {after : List ℕ} → LayoutRefuses encoding n → Writing encoding output (refuse m) after → m ≡ n
refused_alike encoding output x (Writing.refused r is) = ap number_of (one_refusal (sym is ∙ x.refuses)) ∙ x.number_is
refused_alike encoding output x (Writing.too_small e next is short) = absurd (never_both (sym x.refuses ∙ is))

never_written : (encoding output : List ℕ) {m n : ℕ} {after : List ℕ} → LayoutRefuses encoding n → Writing encoding output (wrote m) after → ⊥
never_written encoding output x (Writing.written e next is fits) = never_both (sym x.refuses ∙ is)

pub canonical_as_decode : CanonicalAsDecode
canonical_as_decode encoding table before t header output lent n answer after out words size sized (Decode.size bad) other call = absurd (bad size)
canonical_as_decode encoding table before t header output lent n answer after out words size sized (Decode.accepted _ x) other call = absurd (other refl)
canonical_as_decode encoding table before t header output lent n answer after out words size sized (Decode.refused _ x) other (CanonicalCall.size bad) =
    absurd (bad sized)
canonical_as_decode encoding table before t header output lent n answer after out words size sized (Decode.refused _ x) other (CanonicalCall.refused _ y) =
    refused_alike encoding output (layout_refused encoding table words x) y
canonical_as_decode encoding table before t header output lent n answer after out words size sized (Decode.refused _ x) other
    (CanonicalCall.written _ y saved) = absurd (never_written encoding output (layout_refused encoding table words x) y)
