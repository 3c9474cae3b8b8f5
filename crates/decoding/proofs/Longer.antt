-- Bytes that are longer than any encoding: they are refused, and by the same refusal whatever follows them. So the first 2,211 bytes of an input tell
-- how all of it is refused. Assumes nothing.
use Prim.Native.Nat.{ℕ, zero, suc, ◌+◌, ◌*◌, ◌-◌, ◌≤◌, ◌<◌}
use mathlib.Core.Path.{◌≡◌, refl, sym, ap, ◌∙◌}
use mathlib.Core.Bool.{not}
use mathlib.Core.List.{List, ◌++◌}
use native.Mathlib.Omega.{arith}
use borrow.Author.Tests.{le-ltb}
use lib.Dec.{leb}
use lib.ListN.{length, take, drop, length-append, take-append-drop}
use lib.Seq.{length-take-le}
use Rattle.refusal.specs.declared.Refusal.{Refusal}
use Rattle.refusal.specs.declared.Refusal.TheVariants.{StateOutOfRange, EventOutOfRange, RepeatedTransition}
use Rattle.bitfields.specs.Bits.{bits_of}
use Rattle.bitfields.specs.Parser.{Parsed, done, refused, demand, field, flags}
use Rattle.bitfields.proofs.Bits.{length_bits, bits_append}
use Rattle.bitfields.proofs.Parsing.{demand_done, field_in, flags_in, same_then, same_demand, field_append, flags_append}
use Rattle.encoding.specs.Transitions.{listed}
use Rattle.encoding.specs.Encoding.{Encoding, encoding, ending, fixed, front, symbols, symbol_count, preamble, transition, transitions}
use Rattle.encoding.proofs.Ended.{fixed_in, front_in, preamble_in, symbols_few}
use Rattle.decoding.proofs.Longest.{fixed_ends, front_ends, symbols_end, preamble_ends, transitions_end, longest_encoding}

-- each part answers the same where more bits stand behind the most that it reads
fixed_append : (bits rest : List ℕ) → 32 ≤ length bits → fixed (bits ++ rest) 0 ≡ fixed bits 0
unfolding fixed
fixed_append bits rest h =
    same_then (field 6 bits 0) _ _ (field_append 6 bits rest 0 (omega arith)) λ topstate n1 e1.
    let p1 = (field_in 6 bits 0 e1).2 in
    same_then (field 5 bits n1) _ _ (field_append 5 bits rest n1 (omega arith)) λ topevent n2 e2.
    let p2 = (field_in 5 bits n1 e2).2 in
    same_then (field 4 bits n2) _ _ (field_append 4 bits rest n2 (omega arith)) λ k n3 e3.
    let p3 = (field_in 4 bits n2 e3).2 in
    same_then (field 6 bits n3) _ _ (field_append 6 bits rest n3 (omega arith)) λ initial n4 e4.
    let p4 = (field_in 6 bits n3 e4).2 in
    same_then (demand (leb initial topstate) StateOutOfRange bits n4) _ _ (same_demand (leb initial topstate) StateOutOfRange bits (bits ++ rest) n4)
    λ u5 n5 e5.
    let p5 = (demand_done (leb initial topstate) StateOutOfRange bits n4 e5).1 in
    same_then (field 10 bits n5) _ _ (field_append 10 bits rest n5 (omega arith)) λ count n6 e6.
    let p6 = (field_in 10 bits n5 e6).2 in
    same_then (field 1 bits n6) _ _ (field_append 1 bits rest n6 (omega arith)) λ symbols n7 e7. refl

symbols_append : (bits rest : List ℕ) (at n : ℕ) → at + n * 5 ≤ length bits → symbols n (bits ++ rest) at ≡ symbols n bits at
unfolding symbols
symbols_append bits rest at zero h = refl
symbols_append bits rest at (suc n) h =
    same_then (symbols n bits at) _ _ (symbols_append bits rest at n (omega arith)) λ earlier n1 e1.
    let p1 = symbols_end bits at n e1 in
    same_then (field 5 bits n1) _ _ (field_append 5 bits rest n1 (omega arith)) λ last n2 e2. refl

front_append : (bytes rest : List ℕ) → 128 ≤ length (bits_of bytes) → front (bits_of bytes ++ rest) 0 ≡ front (bits_of bytes) 0
unfolding front
front_append bytes rest h =
    let bits = bits_of bytes in
    same_then (fixed bits 0) _ _ (fixed_append bits rest (omega arith)) λ f n1 e1.
    let p1 = fixed_ends bits e1 in
    let small = fixed_in bytes e1 in
    same_then (flags (f.topstate + 1) bits n1) _ _ (flags_append (f.topstate + 1) bits rest n1 (omega (arith, small.topstate))) λ secret n2 e2.
    let p2 = (flags_in (f.topstate + 1) bits n1 e2).2 in
    same_then (flags (f.topevent + 1) bits n2) _ _
    (flags_append (f.topevent + 1) bits rest n2 (omega (arith, small.topstate, small.topevent))) λ observable n3 e3. refl

preamble_append : (bytes rest : List ℕ) → 288 ≤ length (bits_of bytes) → preamble (bits_of bytes ++ rest) 0 ≡ preamble (bits_of bytes) 0
unfolding preamble
preamble_append bytes rest h =
    let bits = bits_of bytes in
    same_then (front bits 0) _ _ (front_append bytes rest (omega arith)) λ f n1 e1.
    let p1 = front_ends bits e1 in
    let small = (front_in bytes e1).0.fixed in
    let few = symbols_few f.fixed small in
    same_then (symbols (symbol_count f.fixed) bits n1) _ _
    (symbols_append bits rest n1 (symbol_count f.fixed) (omega (arith, small.topstate, small.topevent))) λ given n2 e2. refl

transition_append : (s e : ℕ) (bits rest : List ℕ) (at : ℕ) → at + 17 ≤ length bits → transition s e (bits ++ rest) at ≡ transition s e bits at
unfolding transition
transition_append s e bits rest at h =
    same_then (field 6 bits at) _ _ (field_append 6 bits rest at (omega arith)) λ from n1 e1.
    let p1 = (field_in 6 bits at e1).2 in
    same_then (demand (leb from s) StateOutOfRange bits n1) _ _ (same_demand (leb from s) StateOutOfRange bits (bits ++ rest) n1) λ u2 n2 e2.
    let p2 = (demand_done (leb from s) StateOutOfRange bits n1 e2).1 in
    same_then (field 5 bits n2) _ _ (field_append 5 bits rest n2 (omega arith)) λ event n3 e3.
    let p3 = (field_in 5 bits n2 e3).2 in
    same_then (demand (leb event e) EventOutOfRange bits n3) _ _ (same_demand (leb event e) EventOutOfRange bits (bits ++ rest) n3) λ u4 n4 e4.
    let p4 = (demand_done (leb event e) EventOutOfRange bits n3 e4).1 in
    same_then (field 6 bits n4) _ _ (field_append 6 bits rest n4 (omega arith)) λ to n5 e5.
    same_then (demand (leb to s) StateOutOfRange bits n5) _ _ (same_demand (leb to s) StateOutOfRange bits (bits ++ rest) n5) λ u6 n6 e6. refl

transitions_append : (s e : ℕ) (bits rest : List ℕ) (at n : ℕ) → at + n * 17 ≤ length bits → transitions s e n (bits ++ rest) at ≡ transitions s e n bits at
unfolding transitions
transitions_append s e bits rest at zero h = refl
transitions_append s e bits rest at (suc n) h =
    same_then (transitions s e n bits at) _ _ (transitions_append s e bits rest at n (omega arith)) λ earlier n1 e1.
    let p1 = transitions_end s e bits at n e1 in
    same_then (transition s e bits n1) _ _ (transition_append s e bits rest n1 (omega arith)) λ last n2 e2.
    same_then (demand (not (listed last earlier)) RepeatedTransition bits n2) _ _
    (same_demand (not (listed last earlier)) RepeatedTransition bits (bits ++ rest) n2) λ u3 n3 e3. refl

-- a whole byte or more is left: that is no end of an encoding, whatever it holds
ending_append : (bits rest : List ℕ) (at : ℕ) → at + 8 ≤ length bits → ending (bits ++ rest) at ≡ ending bits at
unfolding ending
ending_append bits rest at h =
    rw (le-ltb (length (bits ++ rest) - at) 8 (simp length-append (omega arith)), le-ltb (length bits - at) 8 (omega arith))

-- the most that is read is 17,679 bits, and 2,211 bytes have 17,688
pub longer_same : (bytes more : List ℕ) → 2210 < length bytes → encoding (bits_of (bytes ++ more)) 0 ≡ encoding (bits_of bytes) 0
unfolding encoding
longer_same bytes more h =
    let bits = bits_of bytes in
    let rest = bits_of more in
    let size = length_bits bytes in
    ap (λ (b : List ℕ). encoding b 0) (bits_append bytes more) ∙
    same_then (preamble bits 0) _ _ (preamble_append bytes rest (omega arith)) λ f n1 e1.
    let p1 = preamble_ends bits e1 in
    let small = (preamble_in bytes e1).front.fixed in
    let few = symbols_few f.front.fixed small in
    let s = f.front.fixed.topstate in
    let e = f.front.fixed.topevent in
    let n = f.front.fixed.count in
    let room : n1 + n * 17 + 8 ≤ length bits = omega (arith, small.topstate, small.topevent, small.count) in
    same_then (transitions s e n bits n1) _ _ (transitions_append s e bits rest n1 n (omega arith)) λ ts n2 e2.
    let p2 = transitions_end s e bits n1 n e2 in
    same_then (ending bits n2) _ _ (ending_append bits rest n2 (omega arith)) λ u3 n3 e3. refl

-- BYTES LONGER THAN ANY ENCODING ARE REFUSED, AND AS THEIR FIRST 2,211 ARE
pub longer_refused : (bytes : List ℕ) → 2210 < length bytes → (r : Refusal) × (encoding (bits_of bytes) 0 ≡ refused r)
longer_refused bytes h = go (encoding (bits_of bytes) 0) refl
  where
    go : (p : Parsed Encoding) → encoding (bits_of bytes) 0 ≡ p → (r : Refusal) × (encoding (bits_of bytes) 0 ≡ refused r)
    go (done d n) e = absurd (omega (arith, longest_encoding bytes e))
    go (refused r) e = (r, e)

pub longer_take : (bytes : List ℕ) (n : ℕ) → 2210 < n → n ≤ length bytes → encoding (bits_of (take n bytes)) 0 ≡ encoding (bits_of bytes) 0
longer_take bytes n h l =
    sym (longer_same (take n bytes) (drop n bytes) (omega (arith, length-take-le n bytes l)))
    ∙ ap (λ (b : List ℕ). encoding (bits_of b) 0) (take-append-drop n bytes)
