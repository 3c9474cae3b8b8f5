-- What a writer at a place of a lent output does.
use Rattle.std.specs.Prelude.{ℕ, ◌+◌, ◌*◌, ◌≤◌, ◌≡◌, List, length, Option, Some, None}
use Rattle.std.proofs.lemmas.List.Edits.{sets}

-- the bytes that have to be free for a line that names so many released events. It may need fewer
abbrev pub room_for : ℕ → ℕ
room_for released = 64 + 11 * released

-- for the last lines of a log: the line of an idle log and the last one, or the last one alone
abbrev pub room_at_end : ℕ
room_at_end = room_for 0 + room_for 0

-- a line, and where the next one goes: where it is written, its bytes all stand inside the output, from `at` on, all other bytes stay, and the next line goes behind it
pub data Written (room : ℕ) (before : List ℕ) (at : ℕ) (text : List ℕ) : Option ℕ → List ℕ → Type 0 where
  no_room : (at + room ≤ length before → ⊥) → Written room before at text None before
  written : at + room ≤ length before → length text ≤ room → Written room before at text (Some (at + length text)) (sets before at text)

-- a part of a line, of at most `most` bytes, that ends before `next`
pub record Wrote (most : ℕ) (before : List ℕ) (at : ℕ) (text after : List ℕ) (next : ℕ) : Type 0 where
  pub bytes : after ≡ sets before at text
  pub place : next ≡ at + length text
  pub limit : next ≤ at + most
  pub size : length after ≡ length before
