-- What is stored of the symbols and the entry sets, and the states that are possible after them.
use Rattle.std.specs.Prelude.{◌≡◌, List, [], ◌∷◌, ◌++◌, ℕ, ◌≤◌, ◌<◌, length, get_or, Option, Some, None}
use Rattle.stateset.specs.Set.{In, Is, Counts}
use Rattle.automaton.specs.Run.{Automaton, Possible, Impossible}
use Rattle.automaton.specs.Reaching.{Enters, Arrives, Closed, SizeWithin}
use Rattle.relation.specs.Relation.{Sub}
use Rattle.estimates.specs.declared.Estimate.{Estimate}

-- the first n of a new element and the old ones, and 0 behind them
pub record Pushed (x : ℕ) (old : List ℕ) (n size : ℕ) (r : List ℕ) : Type 0 where
  pub size_is : length r ≡ size
  pub kept : (l : ℕ) → l < n → get_or r l 0 ≡ get_or (x ∷ old) l 0
  pub rest : (l : ℕ) → n ≤ l → get_or r l 0 ≡ 0

-- so of any type: behind them is nothing
pub record PushedOn {A : Type 0} (IsNothing : A → Type 0) (x : A) (old : List A) (n size : ℕ) (r : List A) : Type 0 where
  pub size_is : length r ≡ size
  pub kept : (l : ℕ) (d : A) → l < n → get_or r l d ≡ get_or (x ∷ old) l d
  pub rest : (l : ℕ) (d : A) → n ≤ l → l < size → IsNothing (get_or r l d)

-- every entry set is among the states
abbrev pub Inside : List ℕ → ℕ → Type 0
Inside entries states = (l q : ℕ) → l < 16 → In q (get_or entries l 0) → In q states

-- the estimate is the unobservable reach of the entry set: the possible states after the symbols of which the entry set has those right after the last one
pub record UnobservableReach (p : Automaton) (entry estimate : ℕ) : Type 0 where
  pub each : (trace : List ℕ) → Is entry (Enters p trace) → Is estimate (Arrives p trace)

-- so of an entry set, with the number of these states; and states that unobservable events do not leave, those of `from` among them
pub record Estimated (p : Automaton) (from entry : ℕ) (silent : List ℕ) (e : Estimate) : Type 0 where
  pub entry_is : e.entry ≡ entry
  pub reach : UnobservableReach p entry e.states
  pub size_is : Counts (λ q. In q e.states) e.size
  pub some : (entry ≡ 0 → ⊥) → 1 ≤ e.size
  pub most : e.size ≤ 64
  pub closed : Closed p e.near silent
  pub old : Sub from e.near
  pub new : Sub entry e.near

-- so after one more symbol
pub record Stepped (p : Automaton) (from entry symbol : ℕ) (silent : List ℕ) (e : Estimate) : Type 0 where
  pub estimated : Estimated p from e.entry silent e
  pub size_within : SizeWithin e.size
  pub enters : (trace : List ℕ) → Is entry (Enters p trace) → Is e.entry (Enters p (trace ++ symbol ∷ []))
  pub possible : (trace : List ℕ) → Is entry (Enters p trace) → Possible p (trace ++ symbol ∷ [])

-- if a run is left
pub data Next (p : Automaton) (from entry symbol : ℕ) (silent : List ℕ) : Option Estimate → Type 0 where
  some_run : {e : Estimate} → Stepped p from entry symbol silent e → Next p from entry symbol silent (Some e)
  no_run : ((trace : List ℕ) → Is entry (Enters p trace) → Impossible p (trace ++ symbol ∷ [])) → Next p from entry symbol silent None
