-- Two encodings mean the same exactly where top numbers, K, initial state, secret states, observable events, the symbols of these and the set of the
-- transitions are equal (02, S-9). Assumes nothing.
use Prim.Native.Nat.{ℕ}
use mathlib.Core.Path.{◌≡◌, sym, ap, subst, ◌∙◌}
use mathlib.Core.Logic.{◌↔◌}
use Rattle.stateset.specs.Set.{In}
use Rattle.stateset.proofs.Bits.{in?}
use Rattle.encoding.specs.Transitions.{listed}
use Rattle.encoding.specs.Encoding.{Encoding}
use Rattle.encoding.specs.Answers.{symbol_for}
use Rattle.encoding.specs.declared.ListedTransition.{ListedTransition}
use Rattle.encoding.proofs.HeaderSymbols.{symbol_observable, symbol_unobservable}
use Rattle.encode.proofs.Members.{both_ways}
use Rattle.canonical.specs.Meanings.{Meaning, meaning_of, SameAutomaton}

-- the symbols of all events are equal where those of the observable ones are
same_symbols : (d e : Encoding) → SameAutomaton d e → (x : ℕ) → (meaning_of d).symbols x ≡ (meaning_of e).symbols x
same_symbols d e s x = go (in? x d.front.observable)
  where
    o : ℕ
    o = d.front.observable

    there : symbol_for o e.symbols x ≡ symbol_for e.front.observable e.symbols x
    there = ap (λ (w : ℕ). symbol_for w e.symbols x) s.observable

    go : Dec (In x d.front.observable) → symbol_for d.front.observable d.symbols x ≡ symbol_for e.front.observable e.symbols x
    go (yes i) = symbol_observable o d.symbols x i ∙ s.symbols x i ∙ sym (symbol_observable o e.symbols x i) ∙ there
    go (no n) = symbol_unobservable o d.symbols x n ∙ sym (symbol_unobservable o e.symbols x n) ∙ there

same_means : (d e : Encoding) → SameAutomaton d e → meaning_of d ≡ meaning_of e
same_means d e s =
    let same : (t : ListedTransition) → listed t d.transitions ≡ listed t e.transitions = λ t.
    both_ways (listed t d.transitions) (listed t e.transitions) (s.transitions t).0 (s.transitions t).1 in
    λ i. record {
      topstate = s.topstate i;
      topevent = s.topevent i;
      k = s.k i;
      initial = s.initial i;
      secret = s.secret i;
      observable = s.observable i;
      symbols = λ x. same_symbols d e s x i;
      transitions = λ t. same t i;
    }

means_same : (d e : Encoding) → meaning_of d ≡ meaning_of e → SameAutomaton d e
means_same d e m =
    let o : d.front.observable ≡ e.front.observable = ap (λ (z : Meaning). z.observable) m in
    record {
      topstate = ap (λ (z : Meaning). z.topstate) m;
      topevent = ap (λ (z : Meaning). z.topevent) m;
      k = ap (λ (z : Meaning). z.k) m;
      initial = ap (λ (z : Meaning). z.initial) m;
      secret = ap (λ (z : Meaning). z.secret) m;
      observable = o;
      symbols = λ x i.
          sym (symbol_observable d.front.observable d.symbols x i) ∙ ap (λ (z : Meaning). z.symbols x) m
          ∙ symbol_observable e.front.observable e.symbols x (subst (λ (w : ℕ). In x w) o i);
      transitions = λ t.
          let same : listed t d.transitions ≡ listed t e.transitions = ap (λ (z : Meaning). z.transitions t) m in
          ((λ h. sym same ∙ h), (λ h. same ∙ h));
    }

-- THE MEANINGS ARE EQUAL EXACTLY WHERE ALL OF THESE ARE
pub same_exactly : (d e : Encoding) → (meaning_of d ≡ meaning_of e) ↔ SameAutomaton d e
same_exactly d e = (means_same d e, same_means d e)
