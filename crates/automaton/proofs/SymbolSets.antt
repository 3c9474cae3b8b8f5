-- A walk over the observable events that asks or sorts them by their symbols. Assumes nothing.
use mathlib.Core.Path.{◌≡◌, refl, ap, sym, ◌∙◌, subst}
use mathlib.Core.List.{List, [], ◌∷◌}
use mathlib.Core.Logic.{◌⊎◌, inl, inr, ⊎_elim}
use Prim.Native.Nat.{ℕ, ◌*◌, ◌%◌, ◌^◌, ◌≤◌, ◌<◌}
use native.Mathlib.Omega.{arith}
use native.Mathlib.Decide.{ℕ_discrete}
use native.Mathlib.Nat.{one-mul, mod-eq_of_lt}
use lib.Pow.{pow-lt}
use lib.Bits.{bit_or}
use lib.ListN.{length, get_or, set}
use lib.Count.{count_trailing_zeros}
use lib.Seq.{get_or-set_same, get_or-set_other}
use Rattle.stateset.specs.Set.{In, Is}
use Rattle.stateset.proofs.Bits.{Taken, in_lt, empty, trailing_in, one_shl, with_is}
use Rattle.automaton.specs.Run.{Automaton, automaton_of, Observable, SmallSymbols, WellFormed}
use Rattle.automaton.specs.declared.Header.{Header}
use Rattle.automaton.specs.Reaching.{Showing}
use Rattle.automaton.proofs.Entering.{shows_one, only_shows, symbol_small}

-- the events that the walk has left behind have small symbols
pub record Tested (symbols : List ℕ) (observable todo : ℕ) : Type 0 where
  pub small : observable < 2 ^ 32
  pub sub : (e : ℕ) → In e todo → In e observable
  pub tested : (e : ℕ) → In e observable → In e todo ⊎ (get_or symbols e 0 ≤ 31)

module _ (symbols : List ℕ) (observable : ℕ) where
  pub test_start : observable < 2 ^ 32 → Tested symbols observable observable
  test_start h = record { small = h; sub = λ e i. i; tested = λ e i. inl i }

  pub test_turn : (todo e rest : ℕ) → Taken todo e rest → get_or symbols e 0 ≤ 31 → Tested symbols observable todo → Tested symbols observable rest
  test_turn todo e rest k h g =
      record {
        small = g.small;
        sub = λ x i. g.sub x (k.kept x i);
        tested = λ x i. ⊎_elim (λ t. ⊎_elim (λ same. inr (subst (λ (y : ℕ). get_or symbols y 0 ≤ 31) (sym same) h)) (λ m. inl m) (k.left x t)) (λ d. inr d)
            (g.tested x i);
      }

  pub test_end : (todo : ℕ) → todo ≡ 0 → Tested symbols observable todo → SmallSymbols observable symbols
  test_end todo z g e i = ⊎_elim (λ t. absurd (empty e todo z t)) (λ d. d) (g.tested e i)

-- w has the events with symbol s that the walk has left behind
pub record Sorted (symbols : List ℕ) (observable todo s w : ℕ) : Type 0 where
  pub sound : (e : ℕ) → In e w → In e observable × (get_or symbols e 0 ≡ s)
  pub whole : (e : ℕ) → In e observable → get_or symbols e 0 ≡ s → In e todo ⊎ In e w

module _ (symbols : List ℕ) (observable : ℕ) where
  pub sort_start : (s w : ℕ) → w ≡ 0 → Sorted symbols observable observable s w
  sort_start s w z = record { sound = λ e i. absurd (empty e w z i); whole = λ e i same. inl i }

  pub sort_turn : (todo e rest s w : ℕ) (sets : List ℕ) → Taken todo e rest → get_or symbols e 0 ≡ s → s < length sets → In e observable
      → Is w (λ q. In q (get_or sets s 0) ⊎ (q ≡ e)) → ((k : ℕ) → k < 32 → Sorted symbols observable todo k (get_or sets k 0))
      → (k : ℕ) → k < 32 → Sorted symbols observable rest k (get_or (set sets s w) k 0)
  sort_turn todo e rest s w sets t has less ob W g k h = go (ℕ_discrete k s)
    where
      here : Sorted symbols observable todo s (get_or sets s 0) → Sorted symbols observable rest s w
      here x =
          record {
            sound = λ y i. ⊎_elim (λ j. x.sound y j) (λ same. subst (λ (z : ℕ). In z observable × (get_or symbols z 0 ≡ s)) (sym same) (ob, has)) (W.sound y i);
            whole = λ y i same. ⊎_elim (λ d. ⊎_elim (λ eq. inr (W.whole y (inr eq))) (λ m. inl m) (t.left y d)) (λ m. inr (W.whole y (inl m)))
                (x.whole y i same);
          }

      other : (k ≡ s → ⊥) → Sorted symbols observable todo k (get_or sets k 0) → Sorted symbols observable rest k (get_or sets k 0)
      other n x =
          record {
            sound = x.sound;
            whole = λ y i same. ⊎_elim
                (λ d. ⊎_elim (λ eq. absurd (n (sym same ∙ ap (λ (z : ℕ). get_or symbols z 0) eq ∙ has))) (λ m. inl m) (t.left y d))
                (λ m. inr m) (x.whole y i same);
          }

      go : Dec (k ≡ s) → Sorted symbols observable rest k (get_or (set sets s w) k 0)
      go (yes eq) =
          subst (λ (z : ℕ). Sorted symbols observable rest z (get_or (set sets s w) z 0)) (sym eq)
          (rw (get_or-set_same sets s w 0 less) (here (subst (λ (z : ℕ). Sorted symbols observable todo z (get_or sets z 0)) eq (g k h))))
      go (no n) = rw (get_or-set_other sets s k w 0 n) (other n (g k h))

-- `1 << e` at 32 bits adds the event
pub with_event : (w e : ℕ) → e < 32 → Is (bit_or w ((1 * 2 ^ e) % 2 ^ 32)) (λ q. In q w ⊎ (q ≡ e))
with_event w e h =
    let one : (1 * 2 ^ e) % 2 ^ 32 ≡ (1 * 2 ^ e) % 2 ^ 64 =
    ap (λ (x : ℕ). x % 2 ^ 32) (one-mul (2 ^ e)) ∙ mod-eq_of_lt (pow-lt h) ∙ sym (one_shl e (omega arith)) in
    subst (λ (x : ℕ). Is (bit_or w x) (λ q. In q w ⊎ (q ≡ e))) (sym one) (with_is w e (omega arith))

pub sort_end : (p : Automaton) (todo s w : ℕ) → p.observable < 2 ^ 32 → todo ≡ 0 → Sorted p.symbols p.observable todo s w → Showing p s w
sort_end p todo s w h z g =
    record {
      sound = λ e i.
          let x = g.sound e i in
          (in_lt 32 e p.observable h x.0, shows_one p e x.0 ∙ ap (λ (y : ℕ). y ∷ []) x.1);
      whole = λ e m.
          let x = only_shows p s e m.1 in
          ⊎_elim (λ t. absurd (empty e todo z t)) (λ d. d) (g.whole e x.0 x.1);
    }

-- a byte above 31 is no symbol
pub showing_none : (p : Automaton) → SmallSymbols p.observable p.symbols → (symbol : ℕ) → 31 < symbol → Showing p symbol 0
showing_none p small symbol h =
    record {
      sound = λ e i. absurd (empty e 0 refl i);
      whole = λ e m. absurd (omega (arith, symbol_small p small symbol e m.1));
    }

-- a byte is observable exactly where some event shows it, and is then at most 31
module _ (t : List ℕ) (h : Header) (byte events : ℕ) (s : Showing (automaton_of t h) byte events) where
  pub some_observable : events < 2 ^ 64 → (events ≡ 0 → ⊥) → Observable h byte
  some_observable small n =
      let e = count_trailing_zeros 64 events in
      let x = s.sound e (trailing_in 64 events (omega arith) small) in
      record { event = e; event_small = x.0; shows_it = x.1 }

  pub none_observable : events ≡ 0 → Observable h byte → ⊥
  none_observable z o = empty o.event events z (s.whole o.event (o.event_small, o.shows_it))

pub observable_small : (t : List ℕ) (h : Header) (byte : ℕ) → WellFormed t h → Observable h byte → byte ≤ 31
observable_small t h byte sound o = symbol_small (automaton_of t h) sound.symbols_small byte o.event o.shows_it
