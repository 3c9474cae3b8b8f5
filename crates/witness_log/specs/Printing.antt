-- What the program puts to the front of its output and writes out. No contract says which bytes a system call brings or takes: that those that were followed
-- are the input's, and that what was written out is out, is tested.
use Rattle.std.specs.Prelude.{◌≡◌, List, [], ◌++◌, ◌⊎◌, ℕ, ◌+◌, ◌≤◌, length, take}
use Rattle.automaton.specs.Run.{WellFormed}
use Rattle.automaton.specs.declared.Header.{Header}
use Rattle.monitor.specs.Log.{events_of}
use Rattle.monitor.specs.Running.{Front}
use Rattle.witness_log.specs.WitnessOutput.{Output}
use Rattle.witness_log.specs.Following.{After, On}
use Rattle.witness_log.specs.Putting.{PutOutput}
use Rattle.witness_log.specs.declared.Followed.{Followed}
use Rattle.streams.specs.declared.Begun.{Begun}

-- the first n bytes of the output are there, and are an output of an input
pub record Stands (input : List ℕ) (n : ℕ) (out : List ℕ) : Type 0 where
  pub there : n ≤ length out
  pub output : Output input (take n out)

-- a log whose first bytes are there: what is left of it, and how many bytes of the output are written out
pub data Ran (first out : List ℕ) : (n : ℕ) (out' : List ℕ) → Type 0 where
  -- refused: for every input that begins so
  refused : {n : ℕ} {out' : List ℕ} → ((input : List ℕ) → Front first input → Stands input n out') → Ran first out n out'
  -- read to its end: for the bytes that were read; and, where a log may have no more event bytes, for every input that begins so
  ended : {n : ℕ} {out' : List ℕ} (bytes : List ℕ)
      → ((later : List ℕ) → (later ≡ []) ⊎ (length (events_of (first ++ bytes)) ≡ 4294967295) → Stands ((first ++ bytes) ++ later) n out')
      → Ran first out n out'
  -- a read failed: nothing is written
  failed : Ran first out 0 out

-- all of a log: its first bytes are there, and it runs; or a read failed among them, and nothing is written
pub data Leaves (out : List ℕ) : (n : ℕ) (out' : List ℕ) → Type 0 where
  ran : {first out' : List ℕ} {n : ℕ} → Ran first out n out' → Leaves out n out'
  unread : Leaves out 0 out

-- ---- inside `run`

-- a log that has begun: some event bytes were followed, and room is there for all lines
pub record Ready (t : List ℕ) (h : Header) (b : Begun Followed) (size : ℕ) : Type 0 where
  pub well_formed : WellFormed t h
  pub bytes : List ℕ
  pub after : After t h bytes b.follower
  pub few : b.follower.accepted + b.allowed ≤ 4294967295
  pub room : 766656 ≤ size

-- it is read on, and its lines are put; or a read failed
pub data ReadOn (t : List ℕ) (h : Header) (b : Begun Followed) (out : List ℕ) : (n : ℕ) (out' : List ℕ) → Type 0 where
  put : {n : ℕ} {f : Followed} {out' : List ℕ} (bytes : List ℕ) → length bytes ≤ b.allowed → On t h b.follower bytes f → PutOutput t h f out' n
      → ReadOn t h b out n out'
  not_read : ReadOn t h b out 0 out
