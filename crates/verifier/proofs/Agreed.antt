-- Verdicts agree where the compatible runs do; so where two automata tell the same observable events apart, they are the same over the events behind the
-- symbols. Assumes nothing.
use mathlib.Core.Path.{◌≡◌, refl, sym, subst}
use mathlib.Core.List.{List}
use mathlib.Core.Logic.{◌↔◌}
use Prim.Native.Nat.{ℕ, ◌-◌}
use native.Mathlib.Omega.{arith}
use lib.ListN.{length, take}
use Rattle.automaton.specs.Run.{Automaton}
use Rattle.automaton.specs.Symbols.{WithoutSymbols, Distinct, SameButSymbols, Alike, SameSymbols, Events, symbols_of, SameEvents, Agree}
use Rattle.automaton.proofs.Agreeing.{agree_back, possible_agree, enters_agree, size_agree, sure_at_agree, sure_from_agree, clear_at_agree, clear_from_agree}
use Rattle.automaton.proofs.Spelling.{alike_agree, distinct_alike, events_spelled, same_agree, same_back}
use Rattle.verifier.specs.declared.Estimator.{Estimator}
use Rattle.verifier.specs.Estimators.{Grown}
use Rattle.opacity.specs.declared.Notion.{Notion}
use Rattle.opacity.specs.declared.Notion.TheVariants.{Weak, Strong}
use Rattle.opacity.specs.declared.Secret.{Secret}
use Rattle.opacity.specs.Verdicts.{Steps, none, leak, Sure, Clear, Tells, LeakAt, IsVerdict}
use Rattle.automaton.specs.Reaching.{RightSize}

module _ (p q : Automaton) (a b : List ℕ) (g : Agree p q a b) (secret : Secret) where
  pub sure_agree : (notion : Notion) (j : ℕ) → Sure notion p secret a j → Sure notion q secret b j
  sure_agree Weak j x = sure_at_agree p q a b g secret.states j x
  sure_agree Strong j x = sure_from_agree p q a b g secret.states j x

  pub clear_agree : (notion : Notion) (j : ℕ) → Clear notion p secret a j → Clear notion q secret b j
  clear_agree Weak j x = clear_at_agree p q a b g secret.states j x
  clear_agree Strong j x = clear_from_agree p q a b g secret.states j x

  -- the same l steps back
  clear_back : (notion : Notion) (l : ℕ) → Clear notion p secret a (length a - l) → Clear notion q secret b (length b - l)
  clear_back notion l x = subst (λ (n : ℕ). Clear notion q secret b (n - l)) g.sizes (clear_agree notion (length a - l) x)

  sure_back : (notion : Notion) (l : ℕ) → Sure notion p secret a (length a - l) → Sure notion q secret b (length b - l)
  sure_back notion l x = subst (λ (n : ℕ). Sure notion q secret b (n - l)) g.sizes (sure_agree notion (length a - l) x)

  pub tells_agree : (notion : Notion) (v : Steps) → Tells notion p secret a v → Tells notion q secret b v
  tells_agree notion none x = λ l h r. clear_back notion l (x l h (omega (arith, g.sizes)))
  tells_agree notion (leak l) x =
      record {
        within = x.within;
        reached = omega (arith, x.reached, g.sizes);
        sure = sure_back notion l x.sure;
        least = λ m h. clear_back notion m (x.least m h);
      }

  leak_agree : (notion : Notion) (l : ℕ) → LeakAt notion p secret a l → LeakAt notion q secret b l
  leak_agree notion l x = record { within = x.within; reached = omega (arith, x.reached, g.sizes); sure = sure_back notion l x.sure }

pub words_agree : (p q : Automaton) (a b : List ℕ) → Agree p q a b → (secret : Secret) (notion : Notion) (v : Steps)
    → IsVerdict notion p secret a v → IsVerdict notion q secret b v
words_agree p q a b g secret notion none x = λ l y. x l (leak_agree q p b a (agree_back p q a b g) secret notion l y)
words_agree p q a b g secret notion (leak l) x = (
  leak_agree p q a b g secret notion l x.0,
  λ m h y. x.1 m h (leak_agree q p b a (agree_back p q a b g) secret notion m y),
)

-- and the numbers of possible states
pub sizes_agree : (p q : Automaton) (a b : List ℕ) → Agree p q a b → (m n : ℕ) → RightSize p a m → RightSize q b n → m ≡ n
sizes_agree p q a b g m n x y = sym ((y.exactly m).1 (size_agree p q a b g m ((x.exactly m).0 refl)))

-- two automata that tell the same observable events apart give traces with the same events behind them the same verdicts
module _ (p q : Automaton) (like : Alike p q) (a b : List ℕ) (x : SameEvents p q a b) (secret : Secret) (notion : Notion) (v : Steps) where
  pub alike_tells : Tells notion p secret a v ↔ Tells notion q secret b v
  alike_tells =
      let g = alike_agree p q like a b x in
      (tells_agree p q a b g secret notion v, tells_agree q p b a (agree_back p q a b g) secret notion v)

  pub alike_words : IsVerdict notion p secret a v ↔ IsVerdict notion q secret b v
  alike_words =
      let g = alike_agree p q like a b x in
      (words_agree p q a b g secret notion v, words_agree q p b a (agree_back p q a b g) secret notion v)

-- so where no two observable events share a symbol, each verdict on the symbols of events is the one on these events without symbols
module _ (p q : Automaton) (d : Distinct p) (w : WithoutSymbols q) (s : SameButSymbols p q) (es : List ℕ) (each : Events p es) (secret : Secret)
    (notion : Notion)
    (v : Steps) where
  pub distinct_tells : Tells notion p secret (symbols_of p es) v ↔ Tells notion q secret es v
  distinct_tells = alike_tells p q (distinct_alike p q d w s) (symbols_of p es) es (events_spelled p q d w s es each) secret notion v

  pub distinct_words : IsVerdict notion p secret (symbols_of p es) v ↔ IsVerdict notion q secret es v
  distinct_words = alike_words p q (distinct_alike p q d w s) (symbols_of p es) es (events_spelled p q d w s es each) secret notion v

-- an unobservable event's symbol counts for nothing: every trace has the same verdicts and the same estimator
module _ (p q : Automaton) (same : SameSymbols p q) (trace : List ℕ) where
  pub same_tells : (secret : Secret) (notion : Notion) (v : Steps) → Tells notion p secret trace v ↔ Tells notion q secret trace v
  same_tells secret notion v =
      let g = same_agree p q same trace in
      (tells_agree p q trace trace g secret notion v, tells_agree q p trace trace (agree_back p q trace trace g) secret notion v)

  grown_to : (K : ℕ) (s : Estimator) → Grown p K trace s → Grown q K trace s
  grown_to K s g =
      record {
        allowed = g.allowed;
        possible = possible_agree p q trace trace (same_agree p q same trace) g.possible;
        count_is = g.count_is;
        symbols_are = g.symbols_are;
        symbols_rest = g.symbols_rest;
        entries_are = λ l h.
            let first = take (length trace - l) trace in
            let y = same_agree p q same first in
            let e = g.entries_are l h in
            record {
              sound = λ r i. enters_agree p q first first y r (e.sound r i);
              whole = λ r n. e.whole r (enters_agree q p first first (agree_back p q first first y) r n);
            };
        entries_rest = g.entries_rest;
        symbols_size = g.symbols_size;
        entries_size = g.entries_size;
        entries_words = g.entries_words;
      }

pub same_grown : (p q : Automaton) → SameSymbols p q → (trace : List ℕ) (K : ℕ) (s : Estimator) → Grown p K trace s ↔ Grown q K trace s
same_grown p q same trace K s = (grown_to p q same trace K s, grown_to q p (same_back p q same) trace K s)
