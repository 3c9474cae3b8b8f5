-- What is shown of transitions that are listed twice (02, S-1): no contract cites it, since the layout (Encoding) says it by one `demand`.
use Rattle.std.specs.Prelude.{ℕ, ◌<◌, ◌≡◌, true, false, List, [], ◌∷◌, length}
use Rattle.bitfields.specs.Parser.{done}
use Rattle.encoding.specs.Transitions.{listed}
use Rattle.encoding.specs.declared.ListedTransition.{ListedTransition}
use Rattle.encoding.specs.Encoding.{Preamble, preamble, transition, transitions}

-- no transition stands in the list twice
abbrev pub Distinct : List ListedTransition → Type 0
Distinct [] = Unit {0}
Distinct (t ∷ ts) = (listed t ts ≡ false) × Distinct ts

-- n transitions, none twice
pub record Counted (n : ℕ) (ts : List ListedTransition) : Type 0 where
  pub once : Distinct ts
  pub number : length ts ≡ n

-- the list has n different transitions: some list has exactly its transitions, each once, and n of them
pub record Different (ts : List ListedTransition) (n : ℕ) : Type 0 where
  pub each : List ListedTransition
  pub once : Distinct each
  pub same : (t : ListedTransition) → listed t each ≡ listed t ts
  pub number : length each ≡ n

-- among the next n transitions one is listed a second time: some, fewer than n, are read; the one behind them passes its own checks, and is one of
-- them. Nothing is said of what follows
pub record Again (topstate topevent n : ℕ) (bits : List ℕ) (at : ℕ) : Type 0 where
  pub number : ℕ
  pub fewer : number < n
  pub earlier : List ListedTransition
  pub position : ℕ
  pub earlier_read : transitions topstate topevent number bits at ≡ done earlier position
  pub last : ListedTransition
  pub next : ℕ
  pub last_read : transition topstate topevent bits position ≡ done last next
  pub repeat : listed last earlier ≡ true

-- an encoding repeats a transition: what stands before the transitions is read, and then so
pub record Repeats (bits : List ℕ) : Type 0 where
  pub read : Preamble
  pub start : ℕ
  pub preamble_read : preamble bits 0 ≡ done read start
  pub again : Again read.front.fixed.topstate read.front.fixed.topevent read.front.fixed.count bits start
