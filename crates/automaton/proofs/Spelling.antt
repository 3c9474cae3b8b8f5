-- Symbols as other names of events: automata that are the same but for symbols, and that tell the same observable events apart, have the same compatible
-- runs on the symbols of the same events. Assumes nothing.
use mathlib.Core.Path.{◌≡◌, refl, ap, ap₂, sym, subst, ◌∙◌}
use mathlib.Core.List.{List, [], ◌∷◌, ◌++◌}
use mathlib.Core.Logic.{◌↔◌}
use Prim.Native.Nat.{ℕ, zero, suc, ◌+◌, ◌<◌}
use native.Mathlib.Omega.{arith}
use native.Mathlib.Nat.{zero-add}
use lib.ListN.{length, get_or, take, drop, length-append}
use Rattle.stateset.specs.Set.{bit, In}
use Rattle.stateset.proofs.Bits.{in?}
use Rattle.automaton.specs.Run.{Automaton, Transition, Step, Takes, end_of, show_if, shows, shown, Possible, Impossible}
use Rattle.automaton.specs.Symbols.{
  each_from,
  own_numbers,
  symbol_of,
  WithoutSymbols,
  Distinct,
  SameButSymbols,
  Alike,
  SameSymbols,
  Events,
  symbols_of,
  OneEvent,
  SameEvents,
  Agree,
}
use Rattle.automaton.proofs.Entering.{shows_one, shows_none}
use Rattle.automaton.proofs.Agreeing.{agree_back, possible_agree, impossible_agree}

-- ---- events and their symbols

module _ (p : Automaton) where
  symbols_append : (a b : List ℕ) → symbols_of p (a ++ b) ≡ symbols_of p a ++ symbols_of p b
  symbols_append [] b = refl
  symbols_append (e ∷ a) b = ap (λ (l : List ℕ). symbol_of p e ∷ l) (symbols_append a b)

  symbols_take : (r : ℕ) (es : List ℕ) → symbols_of p (take r es) ≡ take r (symbols_of p es)
  symbols_take zero es = refl
  symbols_take (suc r) [] = refl
  symbols_take (suc r) (e ∷ es) = ap (λ (l : List ℕ). symbol_of p e ∷ l) (symbols_take r es)

  symbols_drop : (r : ℕ) (es : List ℕ) → symbols_of p (drop r es) ≡ drop r (symbols_of p es)
  symbols_drop zero es = refl
  symbols_drop (suc r) [] = refl
  symbols_drop (suc r) (e ∷ es) = symbols_drop r es

  symbols_length : (es : List ℕ) → length (symbols_of p es) ≡ length es
  symbols_length [] = refl
  symbols_length (e ∷ es) = ap suc (symbols_length es)

  events_append : (a b : List ℕ) → Events p a → Events p b → Events p (a ++ b)
  events_append [] b x y = y
  events_append (e ∷ a) b x y = (x.0, x.1, events_append a b x.2 y)

  events_take : (r : ℕ) (es : List ℕ) → Events p es → Events p (take r es)
  events_take zero es x = tt
  events_take (suc r) [] x = tt
  events_take (suc r) (e ∷ es) x = (x.0, x.1, events_take r es x.2)

  events_drop : (r : ℕ) (es : List ℕ) → Events p es → Events p (drop r es)
  events_drop zero es x = x
  events_drop (suc r) [] x = tt
  events_drop (suc r) (e ∷ es) x = events_drop r es x.2

-- ---- traces with the same events behind them

module _ (p q : Automaton) where
  pub no_events : SameEvents p q [] []
  no_events = record { events = []; each = tt; first = refl; second = refl }

  pub one_event : (x y : ℕ) → OneEvent p q x y → SameEvents p q (x ∷ []) (y ∷ [])
  one_event x y o =
      record {
        events = o.event ∷ [];
        each = (o.event_small, o.event_observable, tt);
        first = ap (λ (s : ℕ). s ∷ []) o.first;
        second = ap (λ (s : ℕ). s ∷ []) o.second;
      }

  pub spelled : (es : List ℕ) → Events p es → SameEvents p q (symbols_of p es) (symbols_of q es)
  spelled es each = record { events = es; each = each; first = refl; second = refl }

  pub join_events : (a b c d : List ℕ) → SameEvents p q a b → SameEvents p q c d → SameEvents p q (a ++ c) (b ++ d)
  join_events a b c d x y =
      record {
        events = x.events ++ y.events;
        each = events_append p x.events y.events x.each y.each;
        first = symbols_append p x.events y.events ∙ ap₂ (λ (l m : List ℕ). l ++ m) x.first y.first;
        second = symbols_append q x.events y.events ∙ ap₂ (λ (l m : List ℕ). l ++ m) x.second y.second;
      }

  pub take_events : (r : ℕ) (a b : List ℕ) → SameEvents p q a b → SameEvents p q (take r a) (take r b)
  take_events r a b x =
      record {
        events = take r x.events;
        each = events_take p r x.events x.each;
        first = symbols_take p r x.events ∙ ap (take r) x.first;
        second = symbols_take q r x.events ∙ ap (take r) x.second;
      }

  pub drop_events : (r : ℕ) (a b : List ℕ) → SameEvents p q a b → SameEvents p q (drop r a) (drop r b)
  drop_events r a b x =
      record {
        events = drop r x.events;
        each = events_drop p r x.events x.each;
        first = symbols_drop p r x.events ∙ ap (drop r) x.first;
        second = symbols_drop q r x.events ∙ ap (drop r) x.second;
      }

  pub same_length : (a b : List ℕ) → SameEvents p q a b → length a ≡ length b
  same_length a b x = sym (ap length x.first) ∙ symbols_length p x.events ∙ sym (symbols_length q x.events) ∙ ap length x.second

-- ---- automata that are the same but for symbols

pub but_back : (p q : Automaton) → SameButSymbols p q → SameButSymbols q p
but_back p q s = record { table = sym s.table; initial = sym s.initial; observable = sym s.observable }

show_length : (b x y : ℕ) → length (show_if b x) ≡ length (show_if b y)
show_length zero x y = refl
show_length (suc b) x y = refl

module _ (p q : Automaton) (s : SameButSymbols p q) where
  pub in_same : (e : ℕ) → In e p.observable → In e q.observable
  in_same e i = subst (λ (w : ℕ). In e w) s.observable i

  events_same : (es : List ℕ) → Events p es → Events q es
  events_same [] x = tt
  events_same (e ∷ es) x = (x.0, in_same e x.1, events_same es x.2)

  takes_same : (from : ℕ) (ss : List Step) → Takes p from ss → Takes q from ss
  takes_same from [] t = tt
  takes_same from (x ∷ ss) t = (subst (λ (l : List ℕ). Transition l from x.event x.to) s.table t.0, takes_same x.to ss t.1)

  -- symbols change no count
  count_same : (ss : List Step) → length (shown p ss) ≡ length (shown q ss)
  count_same [] = refl
  count_same (x ∷ ss) =
      let e = x.event in
      let one : length (shows p e) ≡ length (shows q e) =
      show_length (bit e p.observable) (symbol_of p e) (symbol_of q e)
      ∙ ap (λ (w : ℕ). length (show_if (bit e w) (symbol_of q e))) s.observable in
      omega (arith, count_same ss, one, length-append (shows p e) (shown p ss), length-append (shows q e) (shown q ss))

  -- what steps show has the same events behind it
  shows_spelled : (e : ℕ) → e < 32 → SameEvents p q (shows p e) (shows q e)
  shows_spelled e h = go (in? e p.observable)
    where
      go : Dec (In e p.observable) → SameEvents p q (shows p e) (shows q e)
      go (yes i) = record { events = e ∷ []; each = (h, i, tt); first = sym (shows_one p e i); second = sym (shows_one q e (in_same e i)) }
      go (no n) =
          let other : In e q.observable → ⊥ = λ i. n (subst (λ (w : ℕ). In e w) (sym s.observable) i) in
          record { events = []; each = tt; first = sym (shows_none p e n); second = sym (shows_none q e other) }

  pub shown_spelled : (from : ℕ) (ss : List Step) → Takes p from ss → SameEvents p q (shown p ss) (shown q ss)
  shown_spelled from [] t = no_events p q
  shown_spelled from (x ∷ ss) t =
      join_events p q (shows p x.event) (shows q x.event) (shown p ss) (shown q ss)
      (shows_spelled x.event t.0.event_small) (shown_spelled x.to ss t.1)

-- so they agree on two traces that the same lists of events have as their symbols
agree_by : (p q : Automaton) → SameButSymbols p q → (a b : List ℕ) → length a ≡ length b
    → ((es : List ℕ) → Events p es → (symbols_of p es ≡ a) ↔ (symbols_of q es ≡ b)) → Agree p q a b
agree_by p q s a b size both =
    record {
      to = λ run f.
          let x = shown_spelled p q s p.initial run f.takes in
          record {
            takes = subst (λ (i : ℕ). Takes q i run) s.initial (takes_same p q s p.initial run f.takes);
            shown_is = sym x.second ∙ (both x.events x.each).0 (x.first ∙ f.shown_is);
          };
      from = λ run f.
          let t = takes_same q p (but_back p q s) p.initial run (subst (λ (i : ℕ). Takes q i run) (sym s.initial) f.takes) in
          let x = shown_spelled p q s p.initial run t in
          record { takes = t; shown_is = sym x.first ∙ (both x.events x.each).1 (x.second ∙ f.shown_is) };
      counts = λ run m. count_same p q s m.before;
      states = λ run m. ap (λ (i : ℕ). end_of i m.before) s.initial;
      sizes = size;
    }

pub spelled_back : (p q : Automaton) (a b : List ℕ) → SameButSymbols p q → SameEvents p q a b → SameEvents q p b a
spelled_back p q a b s x = record { events = x.events; each = events_same p q s x.events x.each; first = x.second; second = x.first }

-- ---- automata that tell the same observable events apart

pub alike_back : (p q : Automaton) → Alike p q → Alike q p
alike_back p q g =
    let in_p : (e : ℕ) → In e q.observable → In e p.observable = in_same q p (but_back p q g.same) in
    record {
      same = but_back p q g.same;
      shared = λ d e hd he id ie. let x = g.shared d e hd he (in_p d id) (in_p e ie) in (x.1, x.0);
    }

module _ (p q : Automaton) (g : Alike p q) where
  alike_symbols : (xs ys : List ℕ) → Events p xs → Events p ys → symbols_of p xs ≡ symbols_of p ys → symbols_of q xs ≡ symbols_of q ys
  alike_symbols [] [] x y e = refl
  alike_symbols [] (b ∷ ys) x y e = let z : ◌≡◌ {A = ℕ} 0 1 = cc in absurd (omega arith)
  alike_symbols (a ∷ xs) [] x y e = let z : ◌≡◌ {A = ℕ} 0 1 = cc in absurd (omega arith)
  alike_symbols (a ∷ xs) (b ∷ ys) x y e =
      let head : symbol_of p a ≡ symbol_of p b = cc in
      let tail : symbols_of p xs ≡ symbols_of p ys = cc in
      ap₂ (λ (c : ℕ) (cs : List ℕ). c ∷ cs) ((g.shared a b x.0 y.0 x.1 y.1).0 head) (alike_symbols xs ys x.2 y.2 tail)

-- a symbol of the one corresponds to one symbol of the other
pub one_partner : (p q : Automaton) → Alike p q → (x y z : ℕ) → OneEvent p q x y → OneEvent p q x z → y ≡ z
one_partner p q g x y z a b =
    sym a.second
    ∙ (g.shared a.event b.event a.event_small b.event_small a.event_observable b.event_observable).0 (a.first ∙ sym b.first)
    ∙ b.second

-- THE THEOREM of S-2: traces with the same events behind them have the same runs, counts and states
pub alike_agree : (p q : Automaton) → Alike p q → (a b : List ℕ) → SameEvents p q a b → Agree p q a b
alike_agree p q g a b x =
    agree_by p q g.same a b (same_length p q a b x) (λ es each. (
      λ e. alike_symbols p q g es x.events each x.each (e ∙ sym x.first) ∙ x.second,
      λ e.
          alike_symbols q p (alike_back p q g) es x.events (events_same p q g.same es each) (events_same p q g.same x.events x.each)
          (e ∙ sym x.second) ∙ x.first,
    ))

-- refusal 7: a run is left in both, or in neither
module _ (p q : Automaton) (g : Alike p q) (a b : List ℕ) (x : SameEvents p q a b) where
  pub alike_possible : Possible p a ↔ Possible q b
  alike_possible =
      let y = alike_agree p q g a b x in
      (possible_agree p q a b y, possible_agree q p b a (agree_back p q a b y))

  pub alike_impossible : Impossible p a ↔ Impossible q b
  alike_impossible =
      let y = alike_agree p q g a b x in
      (impossible_agree p q a b y, impossible_agree q p b a (agree_back p q a b y))

-- ---- automata with the same symbols but for those of unobservable events

module _ (p q : Automaton) (g : SameSymbols p q) where
  pub same_alike : Alike p q
  same_alike =
      record {
        same = g.same;
        shared = λ d e hd he i j.
            let x = g.symbols_are d i in
            let y = g.symbols_are e j in
            (λ z. sym x ∙ z ∙ y, λ z. x ∙ z ∙ sym y);
      }

  pub symbols_same : (es : List ℕ) → Events p es → symbols_of p es ≡ symbols_of q es
  symbols_same [] x = refl
  symbols_same (e ∷ es) x = ap₂ (λ (c : ℕ) (cs : List ℕ). c ∷ cs) (g.symbols_are e x.1) (symbols_same es x.2)

  -- they agree on every trace
  pub same_agree : (trace : List ℕ) → Agree p q trace trace
  same_agree trace =
      agree_by p q g.same trace trace refl (λ es each. let x = symbols_same es each in (λ e. sym x ∙ e, λ e. x ∙ e))

pub same_back : (p q : Automaton) → SameSymbols p q → SameSymbols q p
same_back p q g =
    record {
      same = but_back p q g.same;
      symbols_are = λ e i. sym (g.symbols_are e (in_same q p (but_back p q g.same) e i));
    }

-- ---- an automaton without symbols beside one in which no two observable events share a symbol

pub each_at : (f : ℕ → ℕ) (first n e : ℕ) → e < n → get_or (each_from f first n) e 0 ≡ f (first + e)
each_at f first zero e h = absurd (omega arith)
each_at f first (suc n) zero h = let z : first ≡ first + 0 = omega arith in ap f z
each_at f first (suc n) (suc e) h = let z : suc first + e ≡ first + suc e = omega arith in each_at f (suc first) n e (omega arith) ∙ ap f z

pub each_length : (f : ℕ → ℕ) (first n : ℕ) → length (each_from f first n) ≡ n
each_length f first zero = refl
each_length f first (suc n) = ap suc (each_length f (suc first) n)

abbrev plain : Automaton → Automaton
plain p = record { table = p.table; initial = p.initial; observable = p.observable; symbols = own_numbers }

pub own-numbers : (p : Automaton) → p.symbols ≡ own_numbers → WithoutSymbols p
own-numbers p s = record { own = λ e h i. ap (λ (l : List ℕ). get_or l e 0) s ∙ each_at (λ (n : ℕ). n) 0 32 e h ∙ zero-add e }

pub own_symbols : (p : Automaton) → WithoutSymbols p → (es : List ℕ) → Events p es → symbols_of p es ≡ es
own_symbols p w [] x = refl
own_symbols p w (e ∷ es) x = ap₂ (λ (c : ℕ) (cs : List ℕ). c ∷ cs) (w.own e x.0 x.1) (own_symbols p w es x.2)

module _ (p q : Automaton) (d : Distinct p) (w : WithoutSymbols q) (s : SameButSymbols p q) where
  pub distinct_alike : Alike p q
  distinct_alike =
      record {
        same = s;
        shared = λ a b ha hb i j.
            let x = w.own a ha (in_same p q s a i) in
            let y = w.own b hb (in_same p q s b j) in
            (λ e. ap (λ (c : ℕ). symbol_of q c) (d.one a b ha hb i j e), λ e. ap (λ (c : ℕ). symbol_of p c) (sym x ∙ e ∙ y));
      }

  -- a list of observable events without symbols, beside its symbols
  pub events_spelled : (es : List ℕ) → Events p es → SameEvents p q (symbols_of p es) es
  events_spelled es each = record { events = es; each = each; first = refl; second = own_symbols q w es (events_same p q s es each) }

  pub distinct_agree : (es : List ℕ) → Events p es → Agree p q (symbols_of p es) es
  distinct_agree es each = alike_agree p q distinct_alike (symbols_of p es) es (events_spelled es each)

  -- refusal 7
  pub distinct_possible : (es : List ℕ) → Events p es → Possible p (symbols_of p es) ↔ Possible q es
  distinct_possible es each = alike_possible p q distinct_alike (symbols_of p es) es (events_spelled es each)

  pub distinct_impossible : (es : List ℕ) → Events p es → Impossible p (symbols_of p es) ↔ Impossible q es
  distinct_impossible es each = alike_impossible p q distinct_alike (symbols_of p es) es (events_spelled es each)

-- where the second has no symbols, its trace is the events themselves
pub spelled_own : (p q : Automaton) (a b : List ℕ) → WithoutSymbols q → SameButSymbols p q → SameEvents p q a b → Events p b × (a ≡ symbols_of p b)
spelled_own p q a b w s x =
    let e : x.events ≡ b = sym (own_symbols q w x.events (events_same p q s x.events x.each)) ∙ x.second in
    (subst (λ (l : List ℕ). Events p l) e x.each, sym x.first ∙ ap (symbols_of p) e)

-- ---- every trace of which a run is left is the symbols of a list of observable events, and of one alone where no two share a symbol

plain_same : (p : Automaton) → SameButSymbols p (plain p)
plain_same p = record { table = refl; initial = refl; observable = refl }

pub possible_spelled : (p : Automaton) (trace : List ℕ) → Possible p trace → (es : List ℕ) × Events p es × (symbols_of p es ≡ trace)
possible_spelled p trace x =
    let y = shown_spelled p (plain p) (plain_same p) p.initial x.run x.compatible.takes in
    (y.events, y.each, y.first ∙ x.compatible.shown_is)

pub one_list : (p : Automaton) → Distinct p → (xs ys : List ℕ) → Events p xs → Events p ys → symbols_of p xs ≡ symbols_of p ys → xs ≡ ys
one_list p d xs ys x y e =
    let s = plain_same p in
    let w = own-numbers (plain p) refl in
    sym (own_symbols (plain p) w xs (events_same p (plain p) s xs x)) ∙ alike_symbols p (plain p) (distinct_alike p (plain p) d w s) xs ys x y e
    ∙ own_symbols (plain p) w ys (events_same p (plain p) s ys y)

pub distinct_spelled : (p : Automaton) → Distinct p → (trace : List ℕ) → Possible p trace
    → (es : List ℕ) × Events p es × (symbols_of p es ≡ trace) × ((xs : List ℕ) → Events p xs → symbols_of p xs ≡ trace → xs ≡ es)
distinct_spelled p d trace x =
    let y = possible_spelled p trace x in
    (y.0, y.1, y.2, λ xs each e. one_list p d xs y.0 each y.1 (e ∙ sym y.2))
