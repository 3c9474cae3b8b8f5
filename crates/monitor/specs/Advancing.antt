-- What `advance` gives.
use Rattle.std.specs.Prelude.{◌≡◌, List, [], ◌⊎◌, ℕ, ◌+◌, ◌≤◌, length, take, Err, Ok, Result}
use Rattle.std.proofs.lemmas.List.Edits.{sets}
use Rattle.automaton.specs.declared.Header.{Header}
use Rattle.refusal.specs.Refusals.{number_of}
use Rattle.monitor.specs.Stepping.{Within, Lines, Printed}
use Rattle.monitor.specs.declared.Monitor.{Monitor}
use Rattle.monitor.specs.declared.Advance.{Advance}
use Rattle.refusal.specs.declared.Refusal.{Refusal}

-- what an answer says: the number of a refusal, or how many event bytes were taken and where the next line goes
pub data AdvanceOutcome : Type 0 where
  refused : ℕ → AdvanceOutcome
  taken : Advance → AdvanceOutcome

abbrev pub advance_outcome : Result Advance Refusal → AdvanceOutcome
advance_outcome (Err r) = refused (number_of r)
advance_outcome (Ok a) = taken a

-- there is room for a line, and one more event byte is allowed: 01 ends a log after 4,294,967,295 of them
pub record Ready (m : Monitor) (out : List ℕ) (at : ℕ) : Type 0 where
  pub room : at + 256 ≤ length out
  pub allowed : m.offered + 1 ≤ 4294967295

-- event bytes: the answer, the monitor after them and the output after them, in which all their lines stand. Bytes are taken until there are no more or
-- the monitor is not ready, and no more of them than a log may have
pub data Advancing (t : List ℕ) (h : Header) (m : Monitor) (events out : List ℕ) (at : ℕ) : AdvanceOutcome → Monitor → List ℕ → Type 0 where
  malformed : (Within t h m → ⊥) → Advancing t h m events out at (refused 9) m out
  advanced : {n : ℕ} {text : List ℕ} {e : Monitor} → Within t h m → n ≤ length events → Lines t h m (take n events) text e → Within t h e
      → (text ≡ []) ⊎ (at + length text ≤ length out) → e.offered ≤ 4294967295 → (n ≡ length events) ⊎ (Ready e (sets out at text) (at + length text) → ⊥)
      → Advancing t h m events out at (taken (record { taken = n; next = at + length text })) e (sets out at text)

-- the first i event bytes are taken, inside `advance`
pub record Along (t : List ℕ) (h : Header) (m : Monitor) (events out : List ℕ) (at : ℕ) (e : Monitor) (next i : ℕ) (out' : List ℕ) : Type 0 where
  pub among : i ≤ length events
  pub text : List ℕ
  pub lines : Lines t h m (take i events) text e
  pub printed : Printed out at text next out'
  pub within : Within t h e
  pub few : e.offered ≤ 4294967295
