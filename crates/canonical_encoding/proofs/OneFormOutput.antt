-- The definitions leave no choice: an input has one output. And no line of a refusal is a form, so an output tells which of the two it is. Assumes nothing.
use mathlib.Core.Path.{◌≡◌, refl, sym, ap, subst, ◌∙◌}
use mathlib.Core.List.{List, [], ◌∷◌, ◌++◌}
use Prim.Native.Nat.{ℕ}
use native.Mathlib.Omega.{arith}
use lib.ListN.{length, drop}
use Rattle.refusal.specs.declared.Refusal.{Refusal}
use Rattle.refusal.specs.declared.Refusal.TheVariants.{StateOutOfRange}
use Rattle.bitfields.specs.Bits.{bits_of, byte_bits, number_at, number_from}
use Rattle.bitfields.specs.Parser.{Parsed, done, refused, field}
use Rattle.bitfields.proofs.Bits.{bits_append}
use Rattle.bitfields.proofs.Parsing.{field_append}
use Rattle.encoding.specs.Encoding.{Encoding, encoding, preamble, front, fixed}
use Rattle.canonical.specs.Meanings.{Meaning, Means, canonical_bytes}
use Rattle.canonical.proofs.OneForm.{means_one, form_decodes}
use Rattle.report.specs.Text.{refused_log}
use Rattle.canonical_encoding.specs.FormOutput.{OutputOf, form, refusal}

-- accepted bytes are not refused
not_both : {input : List ℕ} {m : Meaning} {r : Refusal} → Means input m → encoding (bits_of input) 0 ≡ refused r → ⊥
not_both {r = r} x e = let z : ◌≡◌ {A = ℕ} 0 1 = clash (sym x.decodes ∙ e) in omega arith
  where
    clash : {d : Encoding} {next : ℕ} → done d next ≡ refused r → ◌≡◌ {A = ℕ} 0 1
    clash y = cc

same_refusal : {r q : Refusal} → ◌≡◌ {A = Parsed Encoding} (refused r) (refused q) → r ≡ q
same_refusal e = cc

module _ (input : List ℕ) where
  -- AN INPUT HAS ONE OUTPUT
  pub one_output : {a b : List ℕ} → OutputOf input a → OutputOf input b → a ≡ b
  one_output (form m x) (form n y) = ap canonical_bytes (means_one input m n x y)
  one_output (form m x) (refusal r e) = absurd (not_both x e)
  one_output (refusal r e) (form m x) = absurd (not_both x e)
  one_output (refusal r e) (refusal q d) = ap refused_log (same_refusal (sym e ∙ d))

-- the line of a refusal begins with `ref`. Read as an encoding, these three bytes have the top state 28 and the initial state 44
abbrev ref : List ℕ
ref = 114 ∷ 101 ∷ 102 ∷ []

ref_length : length (bits_of ref) ≡ 24
unfolding bits_of byte_bits
ref_length = refl

ref_fields : (field 6 (bits_of ref) 0 ≡ done 28 6) × (field 5 (bits_of ref) 6 ≡ done 19 11) × (field 4 (bits_of ref) 11 ≡ done 2 15)
    × (field 6 (bits_of ref) 15 ≡ done 44 21)
unfolding field number_at number_from bits_of byte_bits
ref_fields = (refl, refl, refl, refl)

ref_refused : (rest : List ℕ) → encoding (bits_of (ref ++ rest)) 0 ≡ refused StateOutOfRange
unfolding encoding preamble front fixed
ref_refused rest =
    let bits = bits_of ref in
    let more = bits_of rest in
    let size = ref_length in
    let reads = ref_fields in
    rw (
      bits_append ref rest,
      field_append 6 bits more 0 (omega arith) ∙ reads.0,
      field_append 5 bits more 6 (omega arith) ∙ reads.1,
      field_append 4 bits more 11 (omega arith) ∙ reads.2,
      field_append 6 bits more 15 (omega arith) ∙ reads.3,
    )

-- THE LINE OF A REFUSAL IS NO ENCODING: it is refused itself
pub line_refused : (r : Refusal) → encoding (bits_of (refused_log r)) 0 ≡ refused StateOutOfRange
line_refused r = ref_refused (drop 3 (refused_log r))

-- SO NO FORM IS THE LINE OF A REFUSAL: an output says which of the two it is
pub apart : (input : List ℕ) (m : Meaning) (r : Refusal) → Means input m → canonical_bytes m ≡ refused_log r → ⊥
apart input m r x e = not_both (subst (λ (l : List ℕ). Means l m) e (form_decodes input m x)) (line_refused r)
