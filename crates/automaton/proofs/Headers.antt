-- Headers that are the same but for symbols: refusals 6 and 9, and which offered bytes correspond. Assumes nothing.
use mathlib.Core.Path.{◌≡◌, refl, sym, subst, ◌∙◌}
use mathlib.Core.List.{List, [], ◌∷◌}
use mathlib.Core.Logic.{◌↔◌}
use Prim.Native.Nat.{ℕ, ◌<◌, ◌^◌}
use native.Mathlib.Omega.{arith}
use lib.ListN.{get_or}
use Rattle.stateset.specs.Set.{In}
use Rattle.stateset.proofs.Bits.{in_lt}
use Rattle.stateset.proofs.Tests.{test_as, same?, some?}
use Rattle.automaton.specs.Run.{automaton_of, shows_by, Observable, WellFormed}
use Rattle.automaton.specs.declared.Header.{Header}
use Rattle.automaton.specs.Symbols.{
  WithoutSymbols,
  SameButSymbols,
  SameSymbols,
  Events,
  symbols_of,
  OneEvent,
  SameByte,
  of_event,
  of_none,
  Pairs,
  no_more,
  both,
}
use Rattle.automaton.proofs.Entering.{shows_one, only_shows}
use Rattle.automaton.proofs.Spelling.{but_back, in_same, same_back}

-- refusal 6: the bytes that are not refused are the symbols of the observable events
module _ (h : Header) where
  pub event_observable : (e : ℕ) → e < 32 → In e h.observable → Observable h (get_or h.symbols e 0)
  event_observable e small i = record { event = e; event_small = small; shows_it = shows_one (automaton_of [] h) e i }

  pub observable_event : (byte : ℕ) → Observable h byte → (e : ℕ) × (e < 32) × In e h.observable × (get_or h.symbols e 0 ≡ byte)
  observable_event byte o =
      let x = only_shows (automaton_of [] h) byte o.event o.shows_it in
      (o.event, o.event_small, x.0, x.1)

  -- without symbols they are the observable events
  pub own_observable : (t : List ℕ) → WithoutSymbols (automaton_of t h) → (byte : ℕ) → Observable h byte ↔ ((byte < 32) × In byte h.observable)
  own_observable t w byte = (
    λ o.
        let x = observable_event byte o in
        let e : x.0 ≡ byte = sym (w.own x.0 x.1 x.2) ∙ x.3 in
        subst (λ (n : ℕ). (n < 32) × In n h.observable) e (x.1, x.2),
    λ b. subst (λ (n : ℕ). Observable h n) (w.own byte b.0 b.1) (event_observable byte b.0 b.1),
  )

module _ (t : List ℕ) (h h' : Header) (s : SameButSymbols (automaton_of t h) (automaton_of t h')) where
  -- the two symbols of one observable event are not refused
  pub both_observable : (x y : ℕ) → OneEvent (automaton_of t h) (automaton_of t h') x y → Observable h x × Observable h' y
  both_observable x y o = (
    subst (λ (n : ℕ). Observable h n) o.first (event_observable h o.event o.event_small o.event_observable),
    subst (λ (n : ℕ). Observable h' n) o.second (event_observable h' o.event o.event_small (in_same _ _ s o.event o.event_observable)),
  )

  -- and each byte that is not refused is the symbol of such an event
  pub other_symbol : (x : ℕ) → Observable h x → (y : ℕ) × OneEvent (automaton_of t h) (automaton_of t h') x y
  other_symbol x o =
      let y = observable_event h x o in
      (get_or h'.symbols y.0 0, record { event = y.0; event_small = y.1; event_observable = y.2; first = y.3; second = refl })

  -- where the second has no symbols, that is the event itself
  pub own_event : WithoutSymbols (automaton_of t h') → (e : ℕ) → e < 32 → In e h.observable
      → OneEvent (automaton_of t h) (automaton_of t h') (get_or h.symbols e 0) e
  own_event w e small i =
      record { event = e; event_small = small; event_observable = i; first = refl; second = w.own e small (in_same _ _ s e i) }

  -- refusal 9: where the second has no symbols, it is an automaton if the first is one
  pub own_well_formed : WithoutSymbols (automaton_of t h') → h'.observable < 2 ^ 32 → h.k ≡ h'.k → WellFormed t h → WellFormed t h'
  own_well_formed w small k x =
      record {
        words = x.words;
        back = omega (arith, x.back);
        start = omega (arith, x.start, s.initial);
        symbols_small = λ e i.
            let l : e < 32 = in_lt 32 e h'.observable small i in
            omega (arith, w.own e l i);
      }

-- an unobservable event's symbol counts for nothing, for either refusal
module _ (t : List ℕ) where
  observable_to : (h h' : Header) → SameSymbols (automaton_of t h) (automaton_of t h') → (byte : ℕ) → Observable h byte → Observable h' byte
  observable_to h h' g byte o =
      let x = observable_event h byte o in
      subst (λ (n : ℕ). Observable h' n) (sym (g.symbols_are x.0 x.2) ∙ x.3) (event_observable h' x.0 x.1 (in_same _ _ g.same x.0 x.2))

  well_formed_to : (h h' : Header) → SameSymbols (automaton_of t h) (automaton_of t h') → h.k ≡ h'.k → WellFormed t h → WellFormed t h'
  well_formed_to h h' g k x =
      record {
        words = x.words;
        back = omega (arith, x.back);
        start = omega (arith, x.start, g.same.initial);
        symbols_small = λ e i.
            let y = (same_back _ _ g).symbols_are e i in
            omega (arith, y, x.symbols_small e (in_same _ _ (same_back _ _ g).same e i));
      }

  module _ (h h' : Header) (g : SameSymbols (automaton_of t h) (automaton_of t h')) where
    pub same_observable : (byte : ℕ) → Observable h byte ↔ Observable h' byte
    same_observable byte = (observable_to h h' g byte, observable_to h' h (same_back _ _ g) byte)

    pub same_well_formed : h.k ≡ h'.k → WellFormed t h ↔ WellFormed t h'
    same_well_formed k = (well_formed_to h h' g k, well_formed_to h' h (same_back _ _ g) (sym k))

-- what is the same under a header with other symbols for unobservable events is the same under any two headers that differ there alone
abbrev pub relabelled : Header → List ℕ → Header
relabelled h symbols = record { initial = h.initial; k = h.k; secret = h.secret; observable = h.observable; symbols = symbols }

module _ (t : List ℕ) (C : Header → Type 0)
    (to : (h : Header) (symbols : List ℕ) → SameSymbols (automaton_of t h) (automaton_of t (relabelled h symbols)) → C h → C (relabelled h symbols)) where
  header_to : (h h' : Header) → SameSymbols (automaton_of t h) (automaton_of t h') → h.secret ≡ h'.secret → h.k ≡ h'.k → C h → C h'
  header_to h h' g secret k x =
      let e : relabelled h h'.symbols ≡ h' =
      λ i. record { initial = g.same.initial i; k = k i; secret = secret i; observable = g.same.observable i; symbols = h'.symbols } in
      subst C e (to h h'.symbols (record { same = record { table = refl; initial = refl; observable = refl }; symbols_are = g.symbols_are }) x)

  pub same-header : (h h' : Header) → SameSymbols (automaton_of t h) (automaton_of t h') → h.secret ≡ h'.secret → h.k ≡ h'.k → C h ↔ C h'
  same-header h h' g secret k = (header_to h h' g secret k, header_to h' h (same_back _ _ g) (sym secret) (sym k))

-- a byte is the symbol of an observable event, or it is not
pub observable? : (h : Header) (byte : ℕ) → Dec (Observable h byte)
observable? h byte =
    test_as (λ x. record { event = x.at; event_small = x.small; shows_it = x.holds })
    (λ o. record { at = o.event; small = o.event_small; holds = o.shows_it })
    (some? (λ e. shows_by h.observable h.symbols e ≡ byte ∷ []) (λ e. same? (shows_by h.observable h.symbols e) (byte ∷ [])) 32)

-- so each list of bytes under the one header has a list under the other that corresponds to it
module _ (t : List ℕ) (h h' : Header) (s : SameButSymbols (automaton_of t h) (automaton_of t h')) (well_formed : WellFormed t h') where
  pub same_byte : (x : ℕ) → (y : ℕ) × SameByte t h h' x y
  same_byte x = go (observable? h x)
    where
      go : Dec (Observable h x) → (y : ℕ) × SameByte t h h' x y
      go (yes o) = let y = other_symbol t h h' s x o in (y.0, of_event y.1)
      go (no never) = (32, of_none never (λ o. let e = observable_event h' 32 o in omega (arith, e.3, well_formed.symbols_small e.0 e.2)))

  pub same_bytes : (xs : List ℕ) → (ys : List ℕ) × Pairs (SameByte t h h') xs ys
  same_bytes [] = ([], no_more)
  same_bytes (x ∷ xs) =
      let y = same_byte x in
      let ys = same_bytes xs in
      (y.0 ∷ ys.0, both y.1 ys.1)

-- and the other way round
module _ (t : List ℕ) (h h' : Header) (s : SameButSymbols (automaton_of t h) (automaton_of t h')) where
  pub same_byte_back : (x y : ℕ) → SameByte t h h' x y → SameByte t h' h y x
  same_byte_back x y (of_event o) =
      of_event (record {
        event = o.event;
        event_small = o.event_small;
        event_observable = in_same _ _ s o.event o.event_observable;
        first = o.second;
        second = o.first;
      })
  same_byte_back x y (of_none never never') = of_none never' never

  pub same_bytes_back : (xs ys : List ℕ) → Pairs (SameByte t h h') xs ys → Pairs (SameByte t h' h) ys xs
  same_bytes_back xs ys no_more = no_more
  same_bytes_back xs ys (both {x = x} {y = y} {xs = rest} {ys = rest'} b pairs) = both (same_byte_back x y b) (same_bytes_back rest rest' pairs)

-- so each list of events, offered without symbols, is paired with a list of symbols
pub event_bytes : (t : List ℕ) (h h' : Header) → SameButSymbols (automaton_of t h) (automaton_of t h') → WellFormed t h
    → (ys : List ℕ) → (xs : List ℕ) × Pairs (SameByte t h h') xs ys
event_bytes t h h' s well_formed ys =
    let back = but_back _ _ s in
    let xs = same_bytes t h' h back well_formed ys in
    (xs.0, same_bytes_back t h' h back ys xs.0 xs.1)

-- where all of them are observable, with their symbols
pub event_symbols : (t : List ℕ) (h h' : Header) → SameButSymbols (automaton_of t h) (automaton_of t h') → WithoutSymbols (automaton_of t h')
    → (es : List ℕ) → Events (automaton_of t h) es → Pairs (SameByte t h h') (symbols_of (automaton_of t h) es) es
event_symbols t h h' s w [] x = no_more
event_symbols t h h' s w (e ∷ es) x = both (of_event (own_event t h h' s w e x.0 x.1)) (event_symbols t h h' s w es x.2)
