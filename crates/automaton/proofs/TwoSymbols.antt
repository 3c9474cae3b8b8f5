-- A closed example: two observable events with the symbols 5 and 6, beside the same automaton without symbols. Assumes nothing.
use mathlib.Core.Path.{◌≡◌, refl}
use mathlib.Core.List.{List, [], ◌∷◌, ◌++◌}
use Prim.Native.Nat.{ℕ, zero, suc, ◌<◌, ◌≤◌}
use native.Mathlib.Omega.{arith}
use lib.ListN.{get_or, replicate}
use Rattle.stateset.specs.Set.{bit, In}
use Rattle.stateset.proofs.Bits.{in_lt}
use Rattle.automaton.specs.Run.{Automaton, automaton_of, Possible, WellFormed}
use Rattle.automaton.specs.declared.Header.{Header}
use Rattle.automaton.specs.Symbols.{symbol_of, WithoutSymbols, Distinct, SameButSymbols, Alike, SameSymbols, Events, SameByte, of_event, of_none, Pairs}
use Rattle.automaton.proofs.Spelling.{distinct_alike, alike_possible, events_spelled}
use Rattle.automaton.proofs.Headers.{observable_event, event_symbols}

-- one state, to which the observable events 0 and 1 and the unobservable event 2 lead back
abbrev pub one_state : List ℕ
one_state = 1 ∷ replicate 63 0 ++ 1 ∷ replicate 63 0 ++ 1 ∷ replicate 1919 0

abbrev header : List ℕ → Header
header symbols = record { initial = 0; k = 0; secret = 0; observable = 3; symbols = symbols }

-- the unobservable event has the symbol of event 0
abbrev pub header_5_6 : Header
header_5_6 = header (5 ∷ 6 ∷ 5 ∷ replicate 29 0)

-- each observable event has its own number, and the unobservable one 0, as a decoded header without symbols has it
abbrev pub plain_header : Header
plain_header = header (0 ∷ 1 ∷ replicate 30 0)

-- the unobservable event has another symbol
abbrev pub header_5_6_9 : Header
header_5_6_9 = header (5 ∷ 6 ∷ 9 ∷ replicate 29 0)

abbrev p : Automaton
p = automaton_of one_state header_5_6

abbrev q : Automaton
q = automaton_of one_state plain_header

two : (e : ℕ) → In e 3 → e < 2
two e i = in_lt 2 e 3 (omega arith) i

-- the three headers are automata with this table
well_formed : (symbols : List ℕ) → ((e : ℕ) → e < 2 → get_or symbols e 0 ≤ 31) → WellFormed one_state (header symbols)
well_formed symbols small = record { words = refl; back = omega arith; start = omega arith; symbols_small = λ e i. small e (two e i) }

at_most_31 : (a b : ℕ) (others : List ℕ) → a ≤ 31 → b ≤ 31 → (e : ℕ) → e < 2 → get_or (a ∷ b ∷ others) e 0 ≤ 31
at_most_31 a b others ha hb zero h = ha
at_most_31 a b others ha hb (suc zero) h = hb
at_most_31 a b others ha hb (suc (suc e)) h = absurd (omega arith)

pub well_formed_5_6 : WellFormed one_state header_5_6
well_formed_5_6 = well_formed _ (at_most_31 5 6 (5 ∷ replicate 29 0) (omega arith) (omega arith))

pub well_formed_plain : WellFormed one_state plain_header
well_formed_plain = well_formed _ (at_most_31 0 1 (replicate 30 0) (omega arith) (omega arith))

pub well_formed_5_6_9 : WellFormed one_state header_5_6_9
well_formed_5_6_9 = well_formed _ (at_most_31 5 6 (9 ∷ replicate 29 0) (omega arith) (omega arith))

pub events_0_1 : Events p (0 ∷ 1 ∷ [])
unfolding bit
events_0_1 = (omega arith, refl, (omega arith, refl, tt))

pub distinct_5_6 : Distinct p
distinct_5_6 = record { one = λ d e hd he i j s. go d e (two d i) (two e j) s }
  where
    go : (d e : ℕ) → d < 2 → e < 2 → symbol_of p d ≡ symbol_of p e → d ≡ e
    go zero zero hd he s = refl
    go zero (suc zero) hd he s = absurd (omega arith)
    go (suc zero) zero hd he s = absurd (omega arith)
    go (suc zero) (suc zero) hd he s = refl
    go (suc (suc d)) e hd he s = absurd (omega arith)
    go zero (suc (suc e)) hd he s = absurd (omega arith)
    go (suc zero) (suc (suc e)) hd he s = absurd (omega arith)

pub without : WithoutSymbols q
without = record { own = λ e h i. go e (two e i) }
  where
    go : (e : ℕ) → e < 2 → symbol_of q e ≡ e
    go zero h = refl
    go (suc zero) h = refl
    go (suc (suc e)) h = absurd (omega arith)

same_5_6 : SameButSymbols p q
same_5_6 = record { table = refl; initial = refl; observable = refl }

pub alike_5_6 : Alike p q
alike_5_6 = distinct_alike p q distinct_5_6 without same_5_6

pub same_5_6_9 : SameSymbols p (automaton_of one_state header_5_6_9)
same_5_6_9 = record { same = record { table = refl; initial = refl; observable = refl }; symbols_are = λ e i. go e (two e i) }
  where
    go : (e : ℕ) → e < 2 → get_or header_5_6.symbols e 0 ≡ get_or header_5_6_9.symbols e 0
    go zero h = refl
    go (suc zero) h = refl
    go (suc (suc e)) h = absurd (omega arith)

-- the symbols 5 6 are possible, so the events 0 1 are
pub possible_5_6 : Possible p (5 ∷ 6 ∷ [])
unfolding bit
possible_5_6 =
    record {
      run = record { event = 0; to = 0 } ∷ record { event = 2; to = 0 } ∷ record { event = 1; to = 0 } ∷ [];
      compatible = record {
        takes = (
          record { from_small = omega arith; event_small = omega arith; to_small = omega arith; listed = refl },
          (
            record { from_small = omega arith; event_small = omega arith; to_small = omega arith; listed = refl },
            (record { from_small = omega arith; event_small = omega arith; to_small = omega arith; listed = refl }, tt),
          ),
        );
        shown_is = refl;
      };
    }

pub possible_0_1 : Possible q (0 ∷ 1 ∷ [])
possible_0_1 = (alike_possible p q alike_5_6 _ _ (events_spelled p q distinct_5_6 without same_5_6 _ events_0_1)).0 possible_5_6

-- offered bytes: 5 6 correspond to 0 1
pub bytes_5_6 : Pairs (SameByte one_state header_5_6 plain_header) (5 ∷ 6 ∷ []) (0 ∷ 1 ∷ [])
bytes_5_6 = event_symbols one_state header_5_6 plain_header same_5_6 without (0 ∷ 1 ∷ []) events_0_1

-- the byte 6 corresponds to the byte 1, and 200, which is no symbol in either, to itself
pub byte_6 : SameByte one_state header_5_6 plain_header 6 1
unfolding bit
byte_6 = of_event (record { event = 1; event_small = omega arith; event_observable = refl; first = refl; second = refl })

pub byte_200 : SameByte one_state header_5_6 plain_header 200 200
byte_200 = of_none (λ o. let x = observable_event header_5_6 200 o in in_5_6 x.0 (two x.0 x.2) x.3)
    (λ o. let x = observable_event plain_header 200 o in in_plain x.0 (two x.0 x.2) x.3)
  where
    in_5_6 : (e : ℕ) → e < 2 → get_or header_5_6.symbols e 0 ≡ 200 → ⊥
    in_5_6 zero h s = omega arith
    in_5_6 (suc zero) h s = omega arith
    in_5_6 (suc (suc e)) h s = omega arith

    in_plain : (e : ℕ) → e < 2 → get_or plain_header.symbols e 0 ≡ 200 → ⊥
    in_plain zero h s = omega arith
    in_plain (suc zero) h s = omega arith
    in_plain (suc (suc e)) h s = omega arith
