-- A log that is searched, read after read, and its one line. No contract says which bytes a system call brings or takes: the bytes of a read are those at
-- the front of the lent input after it, as many as it answered. That they are the input's, and that a line that was written out is out, is tested.
use Rattle.std.specs.Prelude.{◌≡◌, Bool, List, [], ◌++◌, ◌⊎◌, ℕ, ◌-◌, ◌≤◌, length, take, drop, Option}
use Rattle.refusal.specs.Refusals.{number_of}
use Rattle.refusal.specs.declared.Refusal.{Refusal}
use Rattle.automaton.specs.declared.Header.{Header}
use Rattle.opacity.specs.declared.Notion.{Notion}
use Rattle.leaks.specs.declared.Search.{Search}
use Rattle.leaks.specs.FirstLeaks.{Said}
use Rattle.leaks.specs.Searches.{Advancing}
use Rattle.report.specs.Text.{place_line, no_place_line}
use Rattle.report.specs.Writing.{room_for, Written}
use Rattle.monitor.specs.Opening.{refused, started}
use Rattle.monitor.specs.Stepping.{place_of}
use Rattle.monitor.specs.Running.{Front}
use Rattle.streams.specs.declared.Begun.{Begun}
use Rattle.streams.specs.declared.Ending.{Ending}
use Rattle.streams.specs.declared.Ending.TheVariants.{Done, Ended, Failed}
use Rattle.streams.specs.declared.Rest.{Rest}
use Rattle.streams.specs.Following.{Begins, Fed}
use Rattle.streams.specs.Writes.{RefusalLine}
use Rattle.leak_log.specs.declared.Searching.{Searching}
use Rattle.leak_log.specs.LeakOutput.{Output}
use Rattle.leak_log.specs.Opens.{Opening}

-- one block of bytes is searched
pub record Block (t : List ℕ) (h : Header) (self : Searching) (bytes : List ℕ) (s : Searching) : Type 0 where
  pub says : Said
  pub advancing : Advancing t h self.search bytes says s.search

abbrev pub found_by : Searching → Bool
found_by s = s.search.found

-- one line, at the front of the output
pub record OneLine (text out out' : List ℕ) : Type 0 where
  pub line : Option ℕ
  pub put : Written (room_for 0) out 0 text line out'

-- the end of a search: where the bytes could be read, its one line
abbrev pub Finished : Ending → Search → (out out' : List ℕ) → Type 0
Finished Done s out out' = OneLine (place_line s.accepted) out out'
Finished Ended s out out' = OneLine no_place_line out out'
Finished Failed s out out' = out' ≡ out

-- how many bytes are read on: as many as a log may still have, and no more than there are
pub record Limit (allowed size limit : ℕ) : Type 0 where
  pub few : limit ≤ allowed
  pub there : limit ≤ size
  pub reached : (limit ≡ allowed) ⊎ (limit ≡ size)

-- a search that has begun: it is read on up to its limit, and told; and how many of its bytes were not read
pub record ReadOn (t : List ℕ) (h : Header) (b : Begun Searching) (out : List ℕ) (size : ℕ) (out' : List ℕ) (over : ℕ) : Type 0 where
  pub limit : ℕ
  pub limited : Limit b.allowed size limit
  pub rest : Rest Searching
  pub fed : Fed (Block t h) found_by limit b.follower rest
  pub finished : Finished rest.ending rest.follower.search out out'
  pub not_read_on : over ≡ size - (limit - rest.left)

-- a log whose first bytes are there: it is refused, or the events among them are searched, and it is read on; and how many of its bytes were not read
pub data Ran (notion : Notion) (first out : List ℕ) (size : ℕ) (out' : List ℕ) (over : ℕ) : Type 0 where
  not_opened : {t : List ℕ} {h : Header} {s : Search} (r : Refusal) → Opening notion first (refused (number_of r)) t h s → RefusalLine r out out' → over ≡ size
      → Ran notion first out size out' over
  searched : {t : List ℕ} {h : Header} {s : Search} {n : ℕ} {b : Begun Searching} → Opening notion first (started n) t h s → Begins (Block t h) (record { search = s }) (drop n first) b
      → ReadOn t h b out size out' over → Ran notion first out size out' over

-- how a search was left, by why it ended, where `seen` are all bytes that were read, and `allowed` is how many more event bytes the log may have
abbrev pub Told : (notion : Notion) (seen : List ℕ) (allowed : ℕ) (s : Search) (out out' : List ℕ) (ending : Ending) → Finished ending s out out' → Type 0
-- found: up to its end, the line is the output of every input that begins so, whatever follows
Told notion seen allowed s out out' Done l = (later : List ℕ) → Output notion (seen ++ later) (take (place_of l.line 0) out')
-- ended: of the bytes that were read; and, where a log may have no more, of every input that begins so
Told notion seen allowed s out out' Ended l =
    (later : List ℕ) → (later ≡ []) ⊎ (allowed ≡ 0) → Output notion (seen ++ later) (take (place_of l.line 0) out')
-- a read failed: nothing is written
Told notion seen allowed s out out' Failed e = out' ≡ out

-- how a log that ran was left
abbrev pub LeftBehind : {notion : Notion} {first out : List ℕ} {size : ℕ} {out' : List ℕ} {over : ℕ} → Ran notion first out size out' over → Type 0
-- refused: up to its end, the line is the output of every input that begins so
LeftBehind {notion} {first} {out} {size} {out'} (not_opened r o l e) =
    (input : List ℕ) → Front first input → Output notion input (take (place_of l.line 0) out')
LeftBehind {notion} {first} {out} {size} {out'} (searched {b = b} o e on) =
    Told notion (first ++ on.fed.bytes) (b.allowed - length on.fed.bytes) on.rest.follower.search out out' on.rest.ending on.finished

-- all of a log of at most so many bytes: its first bytes are there, and it runs; or a read failed among them, and nothing is written. And how many were not
-- read
pub data Searches (notion : Notion) (size : ℕ) (out : List ℕ) : ℕ → List ℕ → Type 0 where
  ran : {first out' : List ℕ} {n over : ℕ} → length first ≡ n → n ≤ size → Ran notion first out (size - n) out' over → Searches notion size out over out'
  unread : Searches notion size out 0 out
