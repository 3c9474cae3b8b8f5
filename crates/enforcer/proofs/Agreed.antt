-- Safe prefixes agree where the compatible runs do; so where two automata tell the same observable events apart, they are the same over the events behind
-- the symbols. Assumes nothing.
use mathlib.Core.Path.{sym, subst}
use mathlib.Core.List.{List}
use mathlib.Core.Logic.{inl, inr, ◌↔◌}
use Prim.Native.Nat.{ℕ}
use native.Mathlib.Omega.{arith}
use lib.ListN.{length, take}
use Rattle.stateset.specs.Set.{In}
use Rattle.automaton.specs.Run.{Automaton}
use Rattle.automaton.specs.Symbols.{WithoutSymbols, Distinct, SameButSymbols, Alike, SameSymbols, Events, symbols_of, SameEvents, Agree}
use Rattle.automaton.proofs.Agreeing.{agree_back, possible_agree, sure_at_agree}
use Rattle.automaton.proofs.Spelling.{take_events, same_length, alike_agree, distinct_alike, events_spelled, same_agree, same_back}
use Rattle.verifier.proofs.Agreed as estimators
use Rattle.opacity.specs.declared.Notion.{Notion}
use Rattle.opacity.specs.declared.Notion.TheVariants.{Weak, Strong}
use Rattle.opacity.specs.declared.Secret.{Secret}
use Rattle.opacity.specs.Secrets.{largest}
use Rattle.enforcer.specs.SafePrefix.{Excused, Safe, SafeForAll}
use Rattle.enforcer.specs.Queues.{Longest, Queue}
use Rattle.enforcer.specs.Enforcers.{Grown}
use Rattle.enforcer.specs.declared.Enforcer.{Enforcer}

module _ (p q : Automaton) (a b : List ℕ) (g : Agree p q a b) (secret : Secret) (n : ℕ) where
  excused_agree : Excused p secret a n → Excused q secret b n
  excused_agree x =
      record {
        run = x.run;
        compatible = g.to x.run x.compatible;
        outside = λ m near i. x.outside m (omega (arith, g.counts x.run m)) (subst (λ (s : ℕ). In s secret.states) (sym (g.states x.run m)) i);
      }

  pub safe_agree : (notion : Notion) → Safe notion p secret a n → Safe notion q secret b n
  safe_agree Weak x = λ j h near sure. x j (omega (arith, g.sizes)) near (sure_at_agree q p b a (agree_back p q a b g) secret.states j sure)
  safe_agree Strong (inl far) = inl (omega (arith, g.sizes))
  safe_agree Strong (inr x) = inr (excused_agree x)

-- two automata that tell the same observable events apart have the same safe prefixes, over traces with the same events behind them
pub alike_safe : (p q : Automaton) → Alike p q → (a b : List ℕ) → SameEvents p q a b → (secret : Secret) (n : ℕ) (notion : Notion)
    → Safe notion p secret a n ↔ Safe notion q secret b n
alike_safe p q like a b x secret n notion =
    let g = alike_agree p q like a b x in
    (safe_agree p q a b g secret n notion, safe_agree q p b a (agree_back p q a b g) secret n notion)

-- for every secret, each by its own K
pub alike_safe_all : (p q : Automaton) → Alike p q → (a b : List ℕ) → SameEvents p q a b → (cs : List Secret) (n : ℕ) (notion : Notion)
    → SafeForAll notion p cs a n ↔ SafeForAll notion q cs b n
alike_safe_all p q like a b x cs n notion = (
  λ safe. record { each = λ i given. (alike_safe p q like a b x _ n notion).0 (safe.each i given) },
  λ safe. record { each = λ i given. (alike_safe p q like a b x _ n notion).1 (safe.each i given) },
)

-- so where no two observable events share a symbol, the symbols of events are safe to release exactly where these events are without symbols
pub distinct_safe : (p q : Automaton) → Distinct p → WithoutSymbols q → SameButSymbols p q → (es : List ℕ) → Events p es
    → (cs : List Secret) (n : ℕ) (notion : Notion)
    → SafeForAll notion p cs (symbols_of p es) n ↔ SafeForAll notion q cs es n
distinct_safe p q d w s es each = alike_safe_all p q (distinct_alike p q d w s) (symbols_of p es) es (events_spelled p q d w s es each)

-- the longest safe prefix has the same length
pub alike_longest : (p q : Automaton) → Alike p q → (a b : List ℕ) → SameEvents p q a b → (cs : List Secret) (notion : Notion) (r : ℕ)
    → Longest (SafeForAll notion p cs) a r → Longest (SafeForAll notion q cs) b r
alike_longest p q like a b x cs notion r l =
    let size = same_length p q a b x in
    let same : (k : ℕ) → SafeForAll notion p cs (take k a) (length a) ↔ SafeForAll notion q cs (take k b) (length a) =
    λ k. alike_safe_all p q like (take k a) (take k b) (take_events p q k a b x) cs (length a) notion in
    record {
      within = omega (arith, l.within);
      safe = subst (λ (n : ℕ). SafeForAll notion q cs (take r b) n) size ((same r).0 l.safe);
      longest = λ k more h safe. l.longest k more (omega arith) ((same k).1 (subst (λ (n : ℕ). SafeForAll notion q cs (take k b) n) (sym size) safe));
    }

-- an unobservable event's symbol counts for nothing: the enforcer of a trace is the same
module _ (p q : Automaton) (same : SameSymbols p q) where
  pub same_safe : (trace : List ℕ) (secret : Secret) (n : ℕ) (notion : Notion) → Safe notion p secret trace n ↔ Safe notion q secret trace n
  same_safe trace secret n notion =
      let g = same_agree p q same trace in
      (safe_agree p q trace trace g secret n notion, safe_agree q p trace trace (agree_back p q trace trace g) secret n notion)

  pub same_safe_all : (trace : List ℕ) (cs : List Secret) (n : ℕ) (notion : Notion) → SafeForAll notion p cs trace n ↔ SafeForAll notion q cs trace n
  same_safe_all trace cs n notion = (
    λ safe. record { each = λ i given. (same_safe trace _ n notion).0 (safe.each i given) },
    λ safe. record { each = λ i given. (same_safe trace _ n notion).1 (safe.each i given) },
  )

  grown_to : (notion : Notion) (cs : List Secret) (trace : List ℕ) (s : Enforcer) → Grown notion p cs trace s → Grown notion q cs trace s
  grown_to notion cs trace s g =
      record {
        limits = g.limits;
        possible = possible_agree p q trace trace (same_agree p q same trace) g.possible;
        estimator = (estimators.same_grown p q same trace (largest cs) s.estimator).0 g.estimator;
        under = g.under;
        queue = same_queue (SafeForAll notion p cs) (SafeForAll notion q cs) (λ first n. same_safe_all first cs n notion) trace s.count s.pending
            s.waits g.queue;
        pending_padded = g.pending_padded;
        waits_padded = g.waits_padded;
      }
    where
      same_queue : (S T : List ℕ → ℕ → Type 0) → ((first : List ℕ) (n : ℕ) → S first n ↔ T first n) → (trace : List ℕ) (count : ℕ) (pending waits : List ℕ)
          → Queue S trace count pending waits → Queue T trace count pending waits
      same_queue S T safe trace count pending waits x =
          record {
            few = x.few;
            longest = record {
              within = x.longest.within;
              safe = (safe _ _).0 x.longest.safe;
              longest = λ r more h y. x.longest.longest r more h ((safe _ _).1 y);
            };
            pending_are = x.pending_are;
            waits_are = λ i h m. let w = x.waits_are i h m in (λ y. w.0 ((safe _ _).1 y), λ y. (safe _ _).0 (w.1 y));
          }

pub same_grown : (p q : Automaton) → SameSymbols p q → (notion : Notion) (cs : List Secret) (trace : List ℕ) (s : Enforcer)
    → Grown notion p cs trace s ↔ Grown notion q cs trace s
same_grown p q same notion cs trace s =
    (grown_to p q same notion cs trace s, grown_to q p (same_back p q same) notion cs trace s)
