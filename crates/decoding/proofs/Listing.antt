-- What a decoded table means: the transitions of the automaton are exactly those that the encoding lists. Assumes nothing.
use Prim.Native.Nat.{ℕ, zero, suc, ◌<◌}
use mathlib.Core.Path.{◌≡◌, refl, sym, subst, ◌∙◌}
use mathlib.Core.Bool.{Bool, true, false, false≢true}
use mathlib.Core.List.{List, [], ◌∷◌, ◌++◌}
use mathlib.Core.Logic.{⊎_elim, ◌↔◌}
use native.Mathlib.Omega.{arith}
use lib.Dec.{leb}
use Rattle.automaton.specs.Run as run
use Rattle.automaton.specs.declared.Header.{Header}
use Rattle.refusal.specs.declared.Refusal.TheVariants.{StateOutOfRange, EventOutOfRange}
use Rattle.bitfields.specs.Bits.{bits_of}
use Rattle.bitfields.specs.Parser.{done, demand, field}
use Rattle.bitfields.proofs.Parsing.{on_done, same_done, field_lt}
use Rattle.encoding.specs.Transitions.{same_transition, listed}
use Rattle.encoding.specs.declared.ListedTransition.{ListedTransition}
use Rattle.encoding.specs.Encoding.{Encoding, encoding, transition, transitions}
use Rattle.encoding.specs.Table.{one_if, Holds}
use Rattle.decoding.specs.Decoding.{Decoding, accept, no_header}
use Rattle.encoding.proofs.Listed.{or_split, same_equal, listed_snoc}
use Rattle.encoding.proofs.Ended.{observable_fits, transitions_read, encoding_read, encoding_in}
use Rattle.encoding.proofs.HeaderSymbols.{header_small}

-- numbers that a table of 64 states and 32 events has a place for
pub record Placed (t : ListedTransition) : Type 0 where
  pub from : t.from < 64
  pub event : t.event < 32
  pub to : t.to < 64

transition_placed : (s e : ℕ) (bs : List ℕ) (at : ℕ) {t : ListedTransition} {next : ℕ} → transition s e (bits_of bs) at ≡ done t next → Placed t
unfolding transition
transition_placed s e bs at h =
    let bits = bits_of bs in
    on_done (field 6 bits at) _ h λ from n1 e1 r1.
    on_done (demand (leb from s) StateOutOfRange bits n1) _ r1 λ u2 n2 e2 r2.
    on_done (field 5 bits n2) _ r2 λ event n3 e3 r3.
    on_done (demand (leb event e) EventOutOfRange bits n3) _ r3 λ u4 n4 e4 r4.
    on_done (field 6 bits n4) _ r4 λ to n5 e5 r5.
    on_done (demand (leb to s) StateOutOfRange bits n5) _ r5 λ u6 n6 e6 r6.
    let placed : Placed (record { from = from; event = event; to = to }) =
    record { from = field_lt 6 bs at e1; event = field_lt 5 bs n2 e3; to = field_lt 6 bs n4 e5 } in
    subst Placed (same_done r6).0 placed

abbrev AllPlaced : List ListedTransition → Type 0
AllPlaced ts = (t : ListedTransition) → listed t ts ≡ true → Placed t

snoc_placed : (ts : List ListedTransition) (x : ListedTransition) → AllPlaced ts → Placed x → AllPlaced (ts ++ (x ∷ []))
snoc_placed ts x all p t h =
    let last : same_transition t x ≡ true → Placed t = λ e. subst Placed (sym (same_equal t x e)) p in
    ⊎_elim (all t) last (or_split (listed t ts) (same_transition t x) (sym (listed_snoc t ts x) ∙ h))

transitions_placed : (s e : ℕ) (bs : List ℕ) (at n : ℕ) {ts : List ListedTransition} {next : ℕ} → transitions s e n (bits_of bs) at ≡ done ts next → AllPlaced ts
unfolding transitions
transitions_placed s e bs at zero r = subst AllPlaced (same_done r).0 (λ t h. absurd (false≢true h))
transitions_placed s e bs at (suc n) r =
    let l = transitions_read s e n (bits_of bs) at r in
    subst AllPlaced l.all
    (snoc_placed l.earlier l.last (transitions_placed s e bs at n l.earlier_read) (transition_placed s e bs l.position l.last_read))

encoding_placed : (bs : List ℕ) {d : Encoding} {n : ℕ} → encoding (bits_of bs) 0 ≡ done d n → AllPlaced d.transitions
encoding_placed bs {d} e =
    let r = encoding_read (bits_of bs) e in
    transitions_placed d.front.fixed.topstate d.front.fixed.topevent bs r.start d.front.fixed.count r.listed_read

pub one_true : (b : Bool) → one_if b ≡ 1 → b ≡ true
one_true true e = refl
one_true false e = absurd (omega arith)

-- of a table that holds some transitions: a transition of the automaton is one of them, where the table has a place for it
pub listed_exactly : (ts : List ListedTransition) (table : List ℕ) → Holds ts table → (t : ListedTransition) → Placed t
    → run.Transition table t.from t.event t.to ↔ (listed t ts ≡ true)
listed_exactly ts table x t p = (
  (λ y. one_true (listed t ts) (sym (x.bits t p.from p.event) ∙ y.listed)),
  (λ y. record { from_small = p.from; event_small = p.event; to_small = p.to; listed = x.bits t p.from p.event ∙ rw y }),
)

-- of an encoding that was accepted, with no condition on the numbers: each is listed exactly where the automaton has it
pub transitions_are : (bs after : List ℕ) {d : Encoding} {n : ℕ} → encoding (bits_of bs) 0 ≡ done d n → Holds d.transitions after → (t : ListedTransition)
    → run.Transition after t.from t.event t.to ↔ (listed t d.transitions ≡ true)
transitions_are bs after {d} e x t = (
  (λ y. (listed_exactly d.transitions after x t (record { from = y.from_small; event = y.event_small; to = y.to_small })).0 y),
  (λ y. (listed_exactly d.transitions after x t (encoding_placed bs e t y)).1 y),
)

-- what was decoded is an automaton
pub decoded_well_formed : (bytes table : List ℕ) (h : Header) (t : List ℕ) → Decoding bytes table h accept t → run.WellFormed t h
decoded_well_formed bytes table h t (Decoding.accepted size e next is after holds) =
    let small = encoding_in bytes is in
    record {
      words = holds.size;
      back = omega (arith, small.front.fixed.k);
      start = omega (arith, small.front.fixed.initial);
      symbols_small = header_small e.front.observable e.symbols (observable_fits e.front small.front) small.given;
    }

-- what a refused call hands back is no automaton's header, on any table
pub no-header : (table : List ℕ) → run.WellFormed table no_header → ⊥
no-header table s = omega (arith, s.back)
