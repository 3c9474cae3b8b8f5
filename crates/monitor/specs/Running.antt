-- How a program runs the monitor on an input, in terms of the contracts of the functions that it calls: `open` with the first bytes of the input,
-- `advance` on the event bytes as they come, `end`.
use Rattle.std.specs.Prelude.{◌≡◌, List, [], ◌++◌, ◌⊎◌, ℕ, ◌+◌, ◌≤◌, ◌<◌, length, drop, Some}
use Rattle.std.proofs.Math.Seq.{slice}
use Rattle.refusal.specs.Refusals.{number_of}
use Rattle.automaton.specs.declared.Header.{Header}
use Rattle.refusal.specs.declared.Refusal.{Refusal}
use Rattle.report.specs.Text.{refused_log}
use Rattle.report.specs.Writing.{room_for, room_at_end, Written}
use Rattle.monitor.specs.Opening as opening
use Rattle.monitor.specs.Opening.{front_size, Opening}
use Rattle.monitor.specs.Advancing as advancing
use Rattle.monitor.specs.Advancing.{AdvanceOutcome, Advancing}
use Rattle.monitor.specs.Ending.{last_lines}
use Rattle.monitor.specs.declared.Monitor.{Monitor}

-- the first bytes of an input by which it may be opened: its length and its encoding, as `has_encoding` tests them, or all of it
pub record Front (first input : List ℕ) : Type 0 where
  pub later : List ℕ
  pub splits : first ++ later ≡ input
  pub enough : (front_size first ≤ length first) ⊎ (later ≡ [])

-- how many event bytes a call of `advance` took
abbrev pub taken_by : AdvanceOutcome → ℕ
taken_by (advancing.refused n) = 0
taken_by (advancing.taken a) = a.taken

-- what it wrote into its output, from a place on
abbrev pub written_by : AdvanceOutcome → ℕ → List ℕ → List ℕ
written_by (advancing.refused n) at out = []
written_by (advancing.taken a) at out = slice at a.next out

-- calls of `advance`, each with some of the event bytes that are left, on outputs of any size: all that they wrote, and the monitor after them
pub data Follows (t : List ℕ) (h : Header) : Monitor → (left text : List ℕ) → Monitor → Type 0 where
  -- no event byte is left
  all : {m : Monitor} → Follows t h m [] [] m
  -- a call takes none, though it has some and room for a line
  stops : {m e : Monitor} {left events out out' : List ℕ} {at : ℕ} (later : List ℕ) (says : AdvanceOutcome) → events ++ later ≡ left → 0 < length events
      → at + 256 ≤ length out
      → Advancing t h m events out at says e out' → taken_by says ≡ 0 → Follows t h m left (written_by says at out') e
  -- the bytes that a call does not take are left for the next
  call : {m n e : Monitor} {left events out out' text : List ℕ} {at : ℕ} (later : List ℕ) (says : AdvanceOutcome) → events ++ later ≡ left
      → Advancing t h m events out at says n out' → Follows t h n (drop (taken_by says) left) text e → Follows t h m left (written_by says at out' ++ text) e

-- all calls for an input, and all that they wrote
pub data Runs (input : List ℕ) : List ℕ → Type 0 where
  refused : {first t out out' : List ℕ} {h : Header} {m : Monitor} {at next : ℕ} (r : Refusal) → Front first input
      → Opening first (opening.refused (number_of r)) t h m → Written (room_for 0) out at (refused_log r) (Some next) out' → Runs input (slice at next out')
  ended : {first t text out out' : List ℕ} {h : Header} {m e : Monitor} {n at next : ℕ} → Front first input
      → Opening first (opening.started n) t h m → Follows t h m (drop n input) text e
      → Written room_at_end out at (last_lines e) (Some next) out' → Runs input (text ++ slice at next out')
