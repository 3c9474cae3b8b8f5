-- By which numbers the layout refuses: 1, 3, 4, 5 and 12. For a number x that is none of them, or none of those of a part. Assumes nothing.
use Prim.Native.Nat.{ℕ, zero, suc, ◌+◌, ◌-◌}
use mathlib.Core.Path.{◌≡◌, refl, ap, sym, subst, ◌∙◌}
use mathlib.Core.Bool.{Bool, true, false, not, ◌&&◌, ◌||◌, false≢true}
use mathlib.Core.List.{List}
use native.Mathlib.Omega.{arith}
use lib.Dec.{leb, ltb, eqb}
use lib.ListN.{length}
use Rattle.automaton.specs.declared.Header.{Header}
use Rattle.refusal.specs.declared.Refusal.TheVariants.{StateOutOfRange, EventOutOfRange, TrailingData, RepeatedTransition}
use Rattle.bitfields.specs.Bits.{bits_of, number_at}
use Rattle.bitfields.specs.Parser.{Parsed, demand, field, flags}
use Rattle.bitfields.proofs.Parsing.{Never, never_then, never_demand, never_field, never_flags}
use Rattle.encoding.specs.Transitions.{listed}
use Rattle.decoding.specs.Decoding.{Decoding, refuse}
use Rattle.encoding.specs.Encoding.{Encoding, encoding, ending, fixed, front, symbols, symbol_count, preamble, transition, transitions}

-- the numbers by which a part other than the repeats refuses, as one test
abbrev refusing : ℕ → Bool
refusing x = eqb x 1 || eqb x 3 || eqb x 4 || eqb x 5

module _ (x : ℕ) (other : refusing x ≡ false) (bits : List ℕ) where
  -- x is none of them
  apart : (n : ℕ) → refusing n ≡ true → n ≡ x → ⊥
  apart n is e = false≢true (sym other ∙ ap refusing (sym e) ∙ is)

  one_field : (w at : ℕ) → Never x (field w bits at)
  one_field w at = never_field x w bits at (apart 1 refl)

  some_flags : (n at : ℕ) → Never x (flags n bits at)
  some_flags n at = never_flags x n bits at (apart 1 refl)

  fixed_never : (at : ℕ) → Never x (fixed bits at)
  unfolding fixed
  fixed_never at =
      never_then x (field 6 bits at) _ (one_field 6 at) λ topstate n1.
      never_then x (field 5 bits n1) _ (one_field 5 n1) λ topevent n2.
      never_then x (field 4 bits n2) _ (one_field 4 n2) λ k n3.
      never_then x (field 6 bits n3) _ (one_field 6 n3) λ initial n4.
      never_then x (demand (leb initial topstate) StateOutOfRange bits n4) _
      (never_demand x (leb initial topstate) StateOutOfRange bits n4 (apart 3 refl)) λ u5 n5.
      never_then x (field 10 bits n5) _ (one_field 10 n5) λ count n6.
      never_then x (field 1 bits n6) _ (one_field 1 n6) λ symbols n7. tt

  front_never : (at : ℕ) → Never x (front bits at)
  unfolding front
  front_never at =
      never_then x (fixed bits at) _ (fixed_never at) λ f n1.
      never_then x (flags (f.topstate + 1) bits n1) _ (some_flags (f.topstate + 1) n1) λ secret n2.
      never_then x (flags (f.topevent + 1) bits n2) _ (some_flags (f.topevent + 1) n2) λ observable n3. tt

  symbols_never : (n at : ℕ) → Never x (symbols n bits at)
  unfolding symbols
  symbols_never zero at = tt
  symbols_never (suc n) at =
      never_then x (symbols n bits at) _ (symbols_never n at) λ earlier n1.
      never_then x (field 5 bits n1) _ (one_field 5 n1) λ last n2. tt

  pub preamble_never : (at : ℕ) → Never x (preamble bits at)
  unfolding preamble
  preamble_never at =
      never_then x (front bits at) _ (front_never at) λ f n1.
      never_then x (symbols (symbol_count f.fixed) bits n1) _ (symbols_never (symbol_count f.fixed) n1) λ given n2. tt

  pub transition_never : (s e at : ℕ) → Never x (transition s e bits at)
  unfolding transition
  transition_never s e at =
      let state : 3 ≡ x → ⊥ = apart 3 refl in
      never_then x (field 6 bits at) _ (one_field 6 at) λ from n1.
      never_then x (demand (leb from s) StateOutOfRange bits n1) _ (never_demand x (leb from s) StateOutOfRange bits n1 state) λ u2 n2.
      never_then x (field 5 bits n2) _ (one_field 5 n2) λ event n3.
      never_then x (demand (leb event e) EventOutOfRange bits n3) _ (never_demand x (leb event e) EventOutOfRange bits n3 (apart 4 refl)) λ u4 n4.
      never_then x (field 6 bits n4) _ (one_field 6 n4) λ to n5.
      never_then x (demand (leb to s) StateOutOfRange bits n5) _ (never_demand x (leb to s) StateOutOfRange bits n5 state) λ u6 n6. tt

  pub ending_never : (at : ℕ) → Never x (ending bits at)
  unfolding ending
  ending_never at = never_demand x (ltb (length bits - at) 8 && eqb (number_at bits at (length bits - at)) 0) TrailingData bits at (apart 5 refl)

  module _ (unrepeated : 12 ≡ x → ⊥) where
    transitions_never : (s e n at : ℕ) → Never x (transitions s e n bits at)
    unfolding transitions
    transitions_never s e zero at = tt
    transitions_never s e (suc n) at =
        never_then x (transitions s e n bits at) _ (transitions_never s e n at) λ earlier n1.
        never_then x (transition s e bits n1) _ (transition_never s e n1) λ last n2.
        never_then x (demand (not (listed last earlier)) RepeatedTransition bits n2) _
        (never_demand x (not (listed last earlier)) RepeatedTransition bits n2 unrepeated) λ u3 n3. tt

    pub encoding_never : (at : ℕ) → Never x (encoding bits at)
    unfolding encoding
    encoding_never at =
        never_then x (preamble bits at) _ (preamble_never at) λ d n1.
        let f = d.front.fixed in
        never_then x (transitions f.topstate f.topevent f.count bits n1) _ (transitions_never f.topstate f.topevent f.count n1) λ ts n2.
        never_then x (ending bits n2) _ (ending_never n2) λ u n3. tt

-- and so does decoding, which also refuses by 9
pub decoding_never : (x : ℕ) → refusing x ≡ false → (12 ≡ x → ⊥) → (9 ≡ x → ⊥) → {bytes table : List ℕ} {h : Header} {n : ℕ} {after : List ℕ}
    → Decoding bytes table h (refuse n) after → n ≡ x → ⊥
decoding_never x other unrepeated sized (Decoding.malformed bad) = sized
decoding_never x other unrepeated sized {bytes = bytes} (Decoding.refused size n e) = subst (λ (p : Parsed Encoding). Never x p) e
    (encoding_never x other (bits_of bytes) unrepeated 0)

-- REFUSAL 2 NO LONGER OCCURS (02, S-2)
pub never_two : (bits : List ℕ) → Never 2 (encoding bits 0)
never_two bits = encoding_never 2 refl bits (λ e. omega arith) 0
