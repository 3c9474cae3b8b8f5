-- Automata that differ in their observation symbols alone (02, S-2). Where they tell the same observable events apart, their readers learn the same.
use Rattle.std.specs.Prelude.{◌≡◌, List, [], ◌∷◌, ◌↔◌, ℕ, zero, suc, ◌<◌, length, get_or}
use Rattle.stateset.specs.Set.{In}
use Rattle.automaton.specs.Run.{Automaton, automaton_of, Step, Compatible, Position, count, state_at, Observable}
use Rattle.automaton.specs.declared.Header.{Header}

-- f of the n numbers from the first on
abbrev pub each_from : (ℕ → ℕ) → ℕ → ℕ → List ℕ
each_from f first zero = []
each_from f first (suc n) = f first ∷ each_from f (suc first) n

-- each of the 32 events with its own number as its symbol
abbrev pub own_numbers : List ℕ
own_numbers = each_from (λ e. e) 0 32

-- an event's symbol
abbrev pub symbol_of : Automaton → ℕ → ℕ
symbol_of p e = get_or p.symbols e 0

-- an automaton without symbols: each observable event has its own number. (What an unobservable event has counts for nothing, here and below)
pub record WithoutSymbols (p : Automaton) : Type 0 where
  pub own : (e : ℕ) → e < 32 → In e p.observable → symbol_of p e ≡ e

-- no two observable events share a symbol
pub record Distinct (p : Automaton) : Type 0 where
  pub one : (d e : ℕ) → d < 32 → e < 32 → In d p.observable → In e p.observable → symbol_of p d ≡ symbol_of p e → d ≡ e

-- the same automaton but for the symbols
pub record SameButSymbols (p q : Automaton) : Type 0 where
  pub table : p.table ≡ q.table
  pub initial : p.initial ≡ q.initial
  pub observable : p.observable ≡ q.observable

-- and two observable events share a symbol in the one exactly where they do in the other
pub record Alike (p q : Automaton) : Type 0 where
  pub same : SameButSymbols p q
  pub shared : (d e : ℕ) → d < 32 → e < 32 → In d p.observable → In e p.observable
      → (symbol_of p d ≡ symbol_of p e) ↔ (symbol_of q d ≡ symbol_of q e)

-- the same automaton, and each observable event has the same symbol: they differ at most in the symbols of unobservable events
pub record SameSymbols (p q : Automaton) : Type 0 where
  pub same : SameButSymbols p q
  pub symbols_are : (e : ℕ) → In e p.observable → symbol_of p e ≡ symbol_of q e

-- a list of observable events, and the symbols that they have
abbrev pub Events : Automaton → List ℕ → Type 0
Events p [] = Unit {0}
Events p (e ∷ es) = (e < 32) × In e p.observable × Events p es

abbrev pub symbols_of : Automaton → List ℕ → List ℕ
symbols_of p [] = []
symbols_of p (e ∷ es) = symbol_of p e ∷ symbols_of p es

-- x and y are the symbols of one observable event, in p and in q
pub record OneEvent (p q : Automaton) (x y : ℕ) : Type 0 where
  pub event : ℕ
  pub event_small : event < 32
  pub event_observable : In event p.observable
  pub first : symbol_of p event ≡ x
  pub second : symbol_of q event ≡ y

-- two offered bytes: the symbols of one observable event, each under its header, or neither is the symbol of any
pub data SameByte (t : List ℕ) (h h' : Header) (x y : ℕ) : Type 0 where
  of_event : OneEvent (automaton_of t h) (automaton_of t h') x y → SameByte t h h' x y
  of_none : (Observable h x → ⊥) → (Observable h' y → ⊥) → SameByte t h h' x y

-- two lists, equally long, item by item
pub data Pairs {A : Type 0} (R : A → A → Type 0) : List A → List A → Type 0 where
  no_more : Pairs R [] []
  both : {x y : A} {xs ys : List A} → R x y → Pairs R xs ys → Pairs R (x ∷ xs) (y ∷ ys)

-- the traces a and b have the same observable events behind them, in p and in q
pub record SameEvents (p q : Automaton) (a b : List ℕ) : Type 0 where
  pub events : List ℕ
  pub each : Events p events
  pub first : symbols_of p events ≡ a
  pub second : symbols_of q events ≡ b

-- two automata, each with a trace, have the same compatible runs, with the same counts and states at their positions. All notions, verdicts and safe
-- prefixes are then the same (proofs Agreeing)
pub record Agree (p q : Automaton) (a b : List ℕ) : Type 0 where
  pub to : (run : List Step) → Compatible p a run → Compatible q b run
  pub from : (run : List Step) → Compatible q b run → Compatible p a run
  pub counts : (run : List Step) (m : Position run) → count p m ≡ count q m
  pub states : (run : List Step) (m : Position run) → state_at p m ≡ state_at q m
  pub sizes : length a ≡ length b
