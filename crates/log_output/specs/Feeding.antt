-- A log that is read on, read after read. No contract says which bytes a system call brings or takes: the bytes of a read are those at the front of the
-- lent input after it, as many as it answered. That they are the input's, and that a line that was written out is out, is tested.
use Rattle.std.specs.Prelude.{◌≡◌, List, [], ◌++◌, ℕ, ◌+◌, ◌-◌, ◌≤◌, ◌<◌, ◌⊎◌, length, take}
use Rattle.automaton.specs.declared.Header.{Header}
use Rattle.refusal.specs.declared.Refusal.{Refusal}
use Rattle.monitor.specs.Stepping.{place_of}
use Rattle.monitor.specs.Running.{Front}
use Rattle.streams.specs.declared.Fetched.{Fetched}
use Rattle.streams.specs.declared.Fetched.TheVariants as fetched
use Rattle.streams.specs.Writes.{RefusalLine}
use Rattle.log_output.specs.declared.Status.{Status}
use Rattle.log_output.specs.declared.Status.TheVariants.{Going, Ended, Failed, Closed}
use Rattle.log_output.specs.declared.Progress.{Progress}
use Rattle.log_output.specs.declared.Reading.{Reading}
use Rattle.log_output.specs.declared.Rest.{Rest}
use Rattle.log_output.specs.declared.Monitored.{Monitored}
use Rattle.log_output.specs.Progressing.{Usable, Followed}
use Rattle.log_output.specs.Whole.{EndLines, Begins, Finished, HasPrinted}

abbrev pub with_status : Progress → Status → Progress
with_status p s = record { monitor = p.monitor; at = p.at; status = s }

-- all that stood in the output is written out, or the output takes no more
pub data WrittenOut (p : Progress) (out : List ℕ) : Progress → Type 0 where
  emptied : p.at ≤ length out → WrittenOut p out (record { monitor = p.monitor; at = 0; status = p.status })
  closed : WrittenOut p out (with_status p Closed)

-- what a read found is taken in: its bytes are followed, all of them in order, or the log has ended, or failed
pub data TakenIn (t : List ℕ) (h : Header) (q : Progress) (out input : List ℕ) : Fetched → Reading → List ℕ → Type 0 where
  followed_all : {n : ℕ} {r : Progress} {out' : List ℕ} → (Usable t h q out → Followed t h q (take n input) out r out')
      → TakenIn t h q out input (fetched.Bytes n) (record { progress = r; brought = n }) out'
  no_more : TakenIn t h q out input fetched.End (record { progress = with_status q Ended; brought = 0 }) out
  not_fetched : TakenIn t h q out input fetched.Failed (record { progress = with_status q Failed; brought = 0 }) out

-- one more read, on an output that is written out before it. It brings bytes, and all of them are followed, in order; or the input has ended, or the read
-- failed
pub data Turning (t : List ℕ) (h : Header) (left : ℕ) (p : Progress) (out input : List ℕ) : Reading → List ℕ → Type 0 where
  unwritten : {q : Progress} → WrittenOut p out q → (q.status ≡ Going → ⊥) → Turning t h left p out input (record { progress = q; brought = 0 }) out
  ended : {q : Progress} → WrittenOut p out q → q.status ≡ Going → Turning t h left p out input (record { progress = with_status q Ended; brought = 0 }) out
  failed : {q : Progress} → WrittenOut p out q → q.status ≡ Going → Turning t h left p out input (record { progress = with_status q Failed; brought = 0 }) out
  brought_some : {q r : Progress} {n : ℕ} {out' : List ℕ} → WrittenOut p out q → q.status ≡ Going → 0 < n → n ≤ length input → n ≤ left
      → (Usable t h q out → Followed t h q (take n input) out r out') → Turning t h left p out input (record { progress = r; brought = n }) out'

-- read after read while the log goes on: the bytes that were handed on, in order, and how many might still follow
pub data Feeding (t : List ℕ) (h : Header) : (left : ℕ) → Progress → (out bytes : List ℕ) → Rest → List ℕ → Type 0 where
  stopped : {left : ℕ} {p : Progress} {out : List ℕ} → (p.status ≡ Going → ⊥) → Feeding t h left p out [] (record { progress = p; left = left }) out
  last : {left : ℕ} {p r : Progress} {out input out' : List ℕ} → p.status ≡ Going → Turning t h left p out input (record { progress = r; brought = 0 }) out'
      → Feeding t h left p out [] (record { progress = r; left = left }) out'
  more : {left n : ℕ} {p q : Progress} {out input out₁ later out₂ : List ℕ} {r : Rest} → p.status ≡ Going → 0 < n
      → Turning t h left p out input (record { progress = q; brought = n }) out₁ → Feeding t h (left - n) q out₁ later r out₂
      → Feeding t h left p out (take n input ++ later) r out₂

pub record Fed (t : List ℕ) (h : Header) (left : ℕ) (p : Progress) (out : List ℕ) (r : Rest) (out' : List ℕ) : Type 0 where
  pub bytes : List ℕ
  pub feeding : Feeding t h left p out bytes r out'

-- how many bytes are read on: as many as a log may still have, and no more than there are
pub record Limit (p : Progress) (size limit : ℕ) : Type 0 where
  pub allowed : limit ≤ 4294967295 - p.monitor.offered
  pub there : limit ≤ size
  pub reached : (limit ≡ 4294967295 - p.monitor.offered) ⊎ (limit ≡ size)

-- a log whose first bytes are there: it begins, is read on up to its limit, and ends; and how many of its bytes were not read
pub record Ran (log out : List ℕ) (size : ℕ) (out' : List ℕ) (over : ℕ) : Type 0 where
  pub begun : Monitored
  pub out₁ : List ℕ
  pub begins : Begins log out begun out₁
  pub limit : ℕ
  pub limited : Limit begun.progress size limit
  pub rest : Rest
  pub out₂ : List ℕ
  pub fed : Fed begun.table begun.header limit begun.progress out₁ rest out₂
  pub finished : Finished rest.progress.status rest.progress out₂ out'
  pub not_read_on : over ≡ size - (limit - rest.left)

-- how a log that ran was left
pub data LeftBehind {first out : List ℕ} {size : ℕ} {out' : List ℕ} {over : ℕ} (r : Ran first out size out' over) : Type 0 where
  -- it was refused: its one line, up to its end, is the output of every input that begins so
  one_line : {n : Refusal} (l : RefusalLine n out r.out₁) → out' ≡ r.out₁
      → ((input : List ℕ) → Front first input → HasPrinted input r.out₁ (place_of l.line 0))
      → LeftBehind r
  -- it was read to its end: up to the end of the last line, with what was written out before, stands the output of the first bytes and those handed on
  whole : (e : EndLines r.rest.progress r.out₂ out') (not : e.last.status ≡ Closed → ⊥)
      → HasPrinted (first ++ r.fed.bytes) out' (place_of (e.written not).line 0) → LeftBehind r
  -- a read failed; the lines so far could not be written out; or there is no room for the last line, and they could not be written out: no last line
  not_read : r.rest.progress.status ≡ Failed → out' ≡ r.out₂ → LeftBehind r
  not_written : r.rest.progress.status ≡ Closed → out' ≡ r.out₂ → LeftBehind r
  no_last : (r.rest.progress.at + 256 ≤ length r.out₂ → ⊥) → out' ≡ r.out₂ → LeftBehind r

-- all of a log of at most so many bytes: its first bytes are there, and it runs; or a read failed among them, and nothing is written. And how many were not
-- read
pub data Monitors (size : ℕ) (out : List ℕ) : ℕ → List ℕ → Type 0 where
  ran : {first out' : List ℕ} {n over : ℕ} → length first ≡ n → n ≤ size → Ran first out (size - n) out' over → Monitors size out over out'
  unread : Monitors size out 0 out
