-- The definitions leave no choice: two tables that hold the same transitions are equal, and bytes and a table have one decoding. Assumes nothing.
use Prim.Native.Nat.{ℕ, zero, suc, ◌+◌, ◌*◌, ◌/◌, ◌%◌, ◌^◌, ◌<◌}
use mathlib.Core.Path.{◌≡◌, refl, sym, ap, subst, ◌∙◌}
use mathlib.Core.List.{List}
use native.Mathlib.Omega.{arith}
use native.Mathlib.Nat.{pow-suc}
use lib.ListN.{get_or}
use lib.Seq.{ext_get_or}
use Rattle.stateset.specs.Set.{bit}
use Rattle.stateset.proofs.Bits.{bit_ext}
use Rattle.automaton.specs.declared.Header.{Header}
use Rattle.bitfields.proofs.Parsing.{same_done}
use Rattle.encoding.specs.declared.ListedTransition.{ListedTransition}
use Rattle.encoding.specs.Encoding.{Encoding}
use Rattle.encoding.specs.Table.{Holds}
use Rattle.encoding.specs.Answers.{header_of}
use Rattle.decoding.specs.Decoding.{Outcome, Decoding}

below_pow : (n : ℕ) → n < 2 ^ n
below_pow zero = omega arith
below_pow (suc n) = omega (arith, below_pow n, pow-suc 2 n)

-- every word is that of one event and one state
word : (ts : List ListedTransition) (a b : List ℕ) → Holds ts a → Holds ts b → (i : ℕ) → i < 2048 → get_or a i 0 ≡ get_or b i 0
word ts a b x y i l =
    let i-is : 64 * (i / 64) + i % 64 ≡ i = omega arith in
    let target : ℕ → ListedTransition = λ q. record { from = i % 64; event = i / 64; to = q } in
    let k = get_or a i 0 + get_or b i 0 in
    bit_ext k (get_or a i 0) (get_or b i 0) (omega (arith, below_pow k)) (omega (arith, below_pow k)) (λ q h.
    subst (λ (w : ℕ). bit q (get_or a w 0) ≡ bit q (get_or b w 0)) i-is (x.bits (target q) (omega arith) (omega arith)
    ∙ sym (y.bits (target q) (omega arith) (omega arith))))

pub only : (ts : List ListedTransition) (a b : List ℕ) → Holds ts a → Holds ts b → a ≡ b
only ts a b x y = ext_get_or 0 a b (x.size ∙ sym y.size) (λ i l. word ts a b x y i (rw x.size at l))

-- the same decoding, whichever of its rows holds
pub record Same (h h' : Header) (o o' : Outcome) (after after' : List ℕ) : Type 0 where
  pub header : h ≡ h'
  pub answer : o ≡ o'
  pub table : after ≡ after'

pub one_decoding : (bytes table : List ℕ) {h h' : Header} {o o' : Outcome} {after after' : List ℕ}
    → Decoding bytes table h o after → Decoding bytes table h' o' after' → Same h h' o o' after after'
one_decoding bytes table (Decoding.malformed a) (Decoding.malformed b) = record { header = refl; answer = refl; table = refl }
one_decoding bytes table (Decoding.malformed a) (Decoding.refused b n e) = absurd (a b)
one_decoding bytes table (Decoding.malformed a) (Decoding.accepted b d n e after x) = absurd (a b)
one_decoding bytes table (Decoding.refused a n e) (Decoding.malformed b) = absurd (b a)
one_decoding bytes table (Decoding.refused a n e) (Decoding.refused b m f) = record { header = refl; answer = cc; table = refl }
one_decoding bytes table (Decoding.refused a n e) (Decoding.accepted b d m f after x) = let z : ◌≡◌ {A = ℕ} 0 1 = cc in absurd (omega arith)
one_decoding bytes table (Decoding.accepted a d n e after x) (Decoding.malformed b) = absurd (b a)
one_decoding bytes table (Decoding.accepted a d n e after x) (Decoding.refused b m f) = let z : ◌≡◌ {A = ℕ} 0 1 = cc in absurd (omega arith)
one_decoding bytes table (Decoding.accepted a d n e after x) (Decoding.accepted b d' m f after' y) =
    let s : d ≡ d' = (same_done (sym e ∙ f)).0 in
    record {
      header = ap (λ (v : Encoding). header_of v.front v.symbols) s;
      answer = refl;
      table = only d'.transitions after after' (subst (λ (v : Encoding). Holds v.transitions after) s x) y;
    }
