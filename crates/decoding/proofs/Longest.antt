-- How long an encoding can be: where each part ends, and so the whole. Assumes nothing.
use Prim.Native.Nat.{ℕ, zero, suc, ◌+◌, ◌*◌, ◌-◌, ◌≤◌}
use mathlib.Core.Path.{◌≡◌, refl}
use mathlib.Core.Bool.{Bool, true, false, ◌&&◌}
use mathlib.Core.List.{List}
use native.Mathlib.Omega.{arith}
use borrow.Author.Tests.{ltb-true}
use lib.Dec.{leb, ltb, eqb}
use lib.ListN.{length}
use Rattle.refusal.specs.declared.Refusal.TheVariants.{StateOutOfRange, EventOutOfRange, TrailingData}
use Rattle.bitfields.specs.Bits.{bits_of, number_at}
use Rattle.bitfields.specs.Parser.{done, demand, field, flags}
use Rattle.bitfields.proofs.Bits.{length_bits}
use Rattle.bitfields.proofs.Parsing.{on_done, demand_done, same_done, field_in, flags_in}
use Rattle.encoding.specs.declared.ListedTransition.{ListedTransition}
use Rattle.encoding.specs.Encoding.{Encoding, encoding, ending, fixed, front, symbols, symbol_count, Preamble, preamble, transition, transitions}
use Rattle.encoding.specs.Answers.{FrontSmall, front_end, preamble_end}
use Rattle.encoding.specs.declared.Fixed.{Fixed}
use Rattle.encoding.specs.declared.Front.{Front}
use Rattle.encoding.proofs.Ended.{symbols_few, transitions_read, encoding_in}

pub fixed_ends : (bits : List ℕ) {f : Fixed} {n : ℕ} → fixed bits 0 ≡ done f n → n ≡ 32
unfolding fixed
fixed_ends bits e =
    on_done (field 6 bits 0) _ e λ topstate n1 e1 r1.
    on_done (field 5 bits n1) _ r1 λ topevent n2 e2 r2.
    on_done (field 4 bits n2) _ r2 λ k n3 e3 r3.
    on_done (field 6 bits n3) _ r3 λ initial n4 e4 r4.
    on_done (demand (leb initial topstate) StateOutOfRange bits n4) _ r4 λ u5 n5 e5 r5.
    on_done (field 10 bits n5) _ r5 λ count n6 e6 r6.
    on_done (field 1 bits n6) _ r6 λ symbols n7 e7 r7.
    omega (
      arith,
      (field_in 6 bits 0 e1).2,
      (field_in 5 bits n1 e2).2,
      (field_in 4 bits n2 e3).2,
      (field_in 6 bits n3 e4).2,
      (demand_done (leb initial topstate) StateOutOfRange bits n4 e5).1,
      (field_in 10 bits n5 e6).2,
      (field_in 1 bits n6 e7).2,
      (same_done r7).1,
    )

pub symbols_end : (bits : List ℕ) (at n : ℕ) {given : List ℕ} {next : ℕ} → symbols n bits at ≡ done given next → next ≡ at + n * 5
unfolding symbols
symbols_end bits at zero r = omega (arith, (same_done r).1)
symbols_end bits at (suc n) r =
    on_done (symbols n bits at) _ r λ earlier n1 e1 r1.
    on_done (field 5 bits n1) _ r1 λ last n2 e2 r2.
    omega (arith, symbols_end bits at n e1, (field_in 5 bits n1 e2).2, (same_done r2).1)

pub front_ends : (bits : List ℕ) {f : Front} {n : ℕ} → front bits 0 ≡ done f n → n ≡ front_end f
unfolding front
front_ends bits {f} e =
    on_done (fixed bits 0) _ e λ g n1 e1 r1.
    on_done (flags (g.topstate + 1) bits n1) _ r1 λ secret n2 e2 r2.
    on_done (flags (g.topevent + 1) bits n2) _ r2 λ observable n3 e3 r3.
    let same : record { fixed = g; secret = secret; observable = observable } ≡ f = (same_done r3).0 in
    let states : g.topstate ≡ f.fixed.topstate = λ i. (same i).fixed.topstate in
    let events : g.topevent ≡ f.fixed.topevent = λ i. (same i).fixed.topevent in
    omega (
      arith,
      fixed_ends bits e1,
      (flags_in (g.topstate + 1) bits n1 e2).2,
      (flags_in (g.topevent + 1) bits n2 e3).2,
      (same_done r3).1,
    )

pub preamble_ends : (bits : List ℕ) {d : Preamble} {n : ℕ} → preamble bits 0 ≡ done d n → n ≡ preamble_end d.front
unfolding preamble
preamble_ends bits {d} e =
    on_done (front bits 0) _ e λ f n1 e1 r1.
    on_done (symbols (symbol_count f.fixed) bits n1) _ r1 λ given n2 e2 r2.
    let all : record { front = f; symbols = given } ≡ d = (same_done r2).0 in
    let ends : preamble_end f ≡ preamble_end d.front = λ i. preamble_end (all i).front in
    omega (arith, front_ends bits e1, symbols_end bits n1 (symbol_count f.fixed) e2, (same_done r2).1)

transition_ends : (s e : ℕ) (bits : List ℕ) (at : ℕ) {t : ListedTransition} {next : ℕ} → transition s e bits at ≡ done t next → next ≡ at + 17
unfolding transition
transition_ends s e bits at h =
    on_done (field 6 bits at) _ h λ from n1 e1 r1.
    on_done (demand (leb from s) StateOutOfRange bits n1) _ r1 λ u2 n2 e2 r2.
    on_done (field 5 bits n2) _ r2 λ event n3 e3 r3.
    on_done (demand (leb event e) EventOutOfRange bits n3) _ r3 λ u4 n4 e4 r4.
    on_done (field 6 bits n4) _ r4 λ to n5 e5 r5.
    on_done (demand (leb to s) StateOutOfRange bits n5) _ r5 λ u6 n6 e6 r6.
    omega (
      arith,
      (field_in 6 bits at e1).2,
      (demand_done (leb from s) StateOutOfRange bits n1 e2).1,
      (field_in 5 bits n2 e3).2,
      (demand_done (leb event e) EventOutOfRange bits n3 e4).1,
      (field_in 6 bits n4 e5).2,
      (demand_done (leb to s) StateOutOfRange bits n5 e6).1,
      (same_done r6).1,
    )

pub transitions_end : (s e : ℕ) (bits : List ℕ) (at n : ℕ) {ts : List ListedTransition} {next : ℕ} → transitions s e n bits at ≡ done ts next
    → next ≡ at + n * 17
unfolding transitions
transitions_end s e bits at zero r = omega (arith, (same_done r).1)
transitions_end s e bits at (suc n) r =
    let l = transitions_read s e n bits at r in
    omega (arith, transitions_end s e bits at n l.earlier_read, transition_ends s e bits l.position l.last_read)

first_true : (a b : Bool) → (a && b) ≡ true → a ≡ true
first_true true b e = refl
first_true false b e = e

-- THE LONGEST ENCODING HAS 2,210 BYTES: 32 fixed bits, 64 states, 32 events, 32 symbols of 5 bits, 1,023 transitions of 17, and less than a byte of padding
pub longest_encoding : (bytes : List ℕ) {d : Encoding} {n : ℕ} → encoding (bits_of bytes) 0 ≡ done d n → length bytes ≤ 2210
unfolding encoding ending
longest_encoding bytes {d} e =
    let bits = bits_of bytes in
    let small : FrontSmall d.front = (encoding_in bytes e).front in
    on_done (preamble bits 0) _ e λ f n1 e1 r1.
    on_done (transitions f.front.fixed.topstate f.front.fixed.topevent f.front.fixed.count bits n1) _ r1 λ ts n2 e2 r2.
    on_done (ending bits n2) _ r2 λ u n3 e3 r3.
    let all : record { front = f.front; symbols = f.symbols; transitions = ts } ≡ d = (same_done r3).0 in
    let same : f.front.fixed ≡ d.front.fixed = λ i. (all i).front.fixed in
    let count : f.front.fixed.count ≡ d.front.fixed.count = λ i. (same i).count in
    let topstate : f.front.fixed.topstate ≡ d.front.fixed.topstate = λ i. (same i).topstate in
    let topevent : f.front.fixed.topevent ≡ d.front.fixed.topevent = λ i. (same i).topevent in
    let given : symbol_count f.front.fixed ≡ symbol_count d.front.fixed = λ i. symbol_count (same i) in
    let tail = first_true (ltb (length bits - n2) 8) (eqb (number_at bits n2 (length bits - n2)) 0)
    (demand_done (ltb (length bits - n2) 8 && eqb (number_at bits n2 (length bits - n2)) 0) TrailingData bits n2 e3).0 in
    omega (
      arith,
      ltb-true (length bits - n2) 8 tail,
      length_bits bytes,
      preamble_ends bits e1,
      transitions_end f.front.fixed.topstate f.front.fixed.topevent bits n1 f.front.fixed.count e2,
      symbols_few d.front.fixed small.fixed,
      small.fixed.topstate,
      small.fixed.topevent,
      small.fixed.count,
    )
