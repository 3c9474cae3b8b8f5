-- A run over the last symbols that excuses the system (02: alibi), by either notion.
use Rattle.std.specs.Prelude.{◌≡◌, List, [], ◌∷◌, ℕ, zero, suc, ◌-◌, length, get_or, take, drop}
use Rattle.stateset.specs.Set.{In}
use Rattle.automaton.specs.Run.{Automaton, Step, Takes, end_of, shown, Position, count}
use Rattle.automaton.specs.Reaching.{Enters}
use Rattle.opacity.specs.declared.Notion.{Notion}
use Rattle.opacity.specs.declared.Notion.TheVariants.{Weak, Strong}
use Rattle.verifier.specs.declared.Estimator.{Estimator}

-- weak (02: "a moment of count n − k is not secret"): some position before the first observable step is not. These are the positions of that count,
-- since n − k symbols stand before the start
pub record SomeClear (p : Automaton) (secret start : ℕ) (steps : List Step) : Type 0 where
  pub position : Position steps
  pub first : count p position ≡ 0
  pub outside : In (end_of start position.before) secret → ⊥

-- strong (02: "no moment of count n − k or more is"): no position is secret, the start included
abbrev pub NoneSecret : (secret start : ℕ) → List Step → Type 0
NoneSecret secret start steps = (m : Position steps) → In (end_of start m.before) secret → ⊥

abbrev pub Excused : Notion → Automaton → (secret start : ℕ) → List Step → Type 0
Excused Weak p secret start steps = SomeClear p secret start steps
Excused Strong p secret start steps = NoneSecret secret start steps

-- steps from a state in which they may start, which show these symbols and excuse the system
pub record Witness (notion : Notion) (p : Automaton) (secret : ℕ) (Starts : ℕ → Type 0) (last : List ℕ) (start : ℕ) (steps : List Step) : Type 0 where
  pub starts : Starts start
  pub takes : Takes p start steps
  pub shown_is : shown p steps ≡ last
  pub excused : Excused notion p secret start steps

-- over the last k symbols of a trace (02): "It starts in a state possible just after the event before them, or in the initial state if there is none".
-- (Used where k ≤ n, so that n − k is never cut off)
abbrev pub WitnessOf : Notion → Automaton → (secret : ℕ) → (trace : List ℕ) → (k start : ℕ) → List Step → Type 0
WitnessOf notion p secret trace k start steps =
    Witness notion p secret (Enters p (take (length trace - k) trace)) (drop (length trace - k) trace) start steps

-- the last k of the symbols that are remembered, which stand the newest first, in their own order. (Used where at least k are)
abbrev pub recent : (k : ℕ) → List ℕ → List ℕ
recent zero symbols = []
recent (suc k) symbols = get_or symbols k 0 ∷ recent k symbols

-- the same over what an estimator remembers, grown or not: it starts in a state of the entry set k symbols back. (Used where k ≤ count.) For one that has
-- grown both are the same (proofs WholeTrace: grown_witness). Of others 02 says no more than that what is written passes the checker; one reading for both
-- entries gives that, and leaves no answer open
abbrev pub WitnessIn : Notion → Automaton → (secret : ℕ) → (s : Estimator) → (k start : ℕ) → List Step → Type 0
WitnessIn notion p secret s k start steps =
    Witness notion p secret (λ q. In q (get_or s.entries k 0)) (recent k s.symbols) start steps

-- steps as pairs of bytes, event and state reached. (Events, not symbols: two events of one symbol are two runs)
abbrev pub bytes_of : List Step → List ℕ
bytes_of [] = []
bytes_of (s ∷ ss) = s.event ∷ s.to ∷ bytes_of ss
