-- What the program puts to the front of its output and writes out. No contract says which bytes a system call brings or takes: the bytes that were gathered
-- are those at the front of the lent input after it, as many as was answered. That they are the input's, and that what was written out is out, is tested.
use Rattle.std.specs.Prelude.{List, ◌++◌, ℕ, ◌≤◌, ◌<◌, length, take}
use Rattle.streams.specs.declared.Gathered.{Gathered}
use Rattle.streams.specs.declared.Gathered.TheVariants.{Bytes, All, Failed}
use Rattle.canonical_encoding.specs.FormOutput.{OutputOf}

-- the first n bytes of the output are there, and are the output of an input
pub record Stands (input : List ℕ) (n : ℕ) (out : List ℕ) : Type 0 where
  pub there : n ≤ length out
  pub output : OutputOf input (take n out)

-- of what was gathered, by how the gathering ended: how many bytes of the output are written out, and the output then. `input` is what was lent to read into
pub data Answers (input out : List ℕ) : Gathered → ℕ → List ℕ → Type 0 where
  -- the input ended after k bytes, which are all of it
  ended : {k n : ℕ} {out' : List ℕ} → k < length input → Stands (take k input) n out' → Answers input out (All k) n out'
  -- all that was lent is full: the output of every input that begins so, whatever follows
  full : {n : ℕ} {out' : List ℕ} → ((more : List ℕ) → Stands (input ++ more) n out') → Answers input out (Bytes (length input)) n out'
  -- a read failed: nothing is written
  unread : Answers input out Failed 0 out
