-- The log, from its input to its output: what the calls of the monitor print. That the program's loop hands on every byte that it reads, and what stands in
-- its output then, is `log_output/proofs/FedLog`: `ran-log` (above the system calls, of which no contract speaks); its statement
-- is `log_output/specs/Feeding`: `LeftBehind`.
use Rattle.std.specs.Prelude.{◌≡◌, List, ◌↔◌, ℕ, length}
use Rattle.automaton.specs.declared.Header.{Header}
use Rattle.monitor.specs.Opening.{front_size}
use Rattle.monitor.specs.Log.{Monitored, Output, Idle}
use Rattle.monitor.specs.Running.{Runs}
use Rattle.monitor.specs.Stepping.{Within}
use Rattle.monitor.specs.Advancing.{AdvanceOutcome, refused, Advancing}
use Rattle.monitor.specs.declared.Monitor.{Monitor}

-- what the calls of the monitor print for an input is its output by the definitions, and no other text is
abbrev pub PrintsExactly : Type 0
PrintsExactly = (input text : List ℕ) → Runs input text → (other : List ℕ) → (text ≡ other) ↔ Output input other

-- an input has one output
abbrev pub OneOutput : Type 0
OneOutput = (input a b : List ℕ) → Output input a → Output input b → a ≡ b

-- what a log without any event byte prints (02, S-4)
abbrev pub IdleExactly : Type 0
IdleExactly = (input t : List ℕ) (h : Header) → Monitored input t h → length input ≡ front_size input → (text : List ℕ) → Output input text ↔ Idle t h text

-- `Monitor::advance`, on any monitor and event bytes: 9 exactly where the monitor is outside its limits, and then monitor and output are as they were
pub record AdvanceAnswers (t : List ℕ) (h : Header) (m : Monitor) (out : List ℕ) (says : AdvanceOutcome) (after : Monitor) (left : List ℕ) : Type 0 where
  pub malformed : (says ≡ refused 9) ↔ (Within t h m → ⊥)
  pub no_other : (n : ℕ) → says ≡ refused n → n ≡ 9
  pub unchanged : (n : ℕ) → says ≡ refused n → (after ≡ m) × (left ≡ out)

abbrev pub EveryAdvance : Type 0
EveryAdvance = (t : List ℕ) (h : Header) (m : Monitor) (events out : List ℕ) (at : ℕ) (says : AdvanceOutcome) (after : Monitor) (left : List ℕ)
    → Advancing t h m events out at says after left → AdvanceAnswers t h m out says after left
