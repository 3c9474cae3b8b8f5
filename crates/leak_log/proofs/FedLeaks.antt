-- What a search has told: the line at the front of the output is the output of the input by the definitions. Assumes nothing.
use Rattle.std.specs.Prelude.{Option}
use mathlib.Core.Path.{◌≡◌, refl, sym, ap, subst, ◌∙◌}
use mathlib.Core.Bool.{true}
use mathlib.Core.List.{List, [], ◌∷◌, ◌++◌, append_assoc, append-nil}
use mathlib.Core.Logic.{◌⊎◌, inl, inr}
use Prim.Native.Nat.{ℕ, ◌+◌, ◌-◌, ◌≤◌, ◌<◌, ◌^◌}
use native.Mathlib.Omega.{arith}
use native.Mathlib.Decide.{dec_le}
use lib.ListN.{length, take, drop, length-append, length-take}
use lib.Seq.{take_all, take-nil, take-append-le, take-append-add, drop-append-le, length-take-le}
use Rattle.automaton.specs.Run.{WellFormed}
use Rattle.automaton.specs.declared.Header.{Header}
use Rattle.refusal.specs.Refusals.{number_of}
use Rattle.decoding.specs.Decoding.{accept}
use Rattle.opacity.specs.declared.Notion.{Notion}
use Rattle.opacity.specs.Secrets.{no_further}
use Rattle.verifier.specs.Estimators.{InLimits}
use Rattle.leaks.specs.declared.Search.{Search}
use Rattle.leaks.specs.FirstLeaks.{Said, nowhere, FirstLeak, NoneLeaks}
use Rattle.leaks.specs.Searches.{Searched, Beginning, SearchedOn, Advancing}
use Rattle.leaks.proofs.Leaking.{first_kept}
use Rattle.leaks.proofs.Searching.{absent, on_start, on_then}
use Rattle.report.specs.Text.{place_line, no_place_line}
use Rattle.report.specs.Writing.{room_for, Written, no_room, written}
use Rattle.monitor.specs.Opening.{refused, front_size, Decodes}
use Rattle.monitor.specs.Stepping.{place_of}
use Rattle.monitor.proofs.LogOutput.{take_is, decodes_as, size_kept, encoding_kept}
use Rattle.streams.specs.declared.Begun.{Begun}
use Rattle.streams.specs.declared.Ending.{Ending}
use Rattle.streams.specs.declared.Ending.TheVariants.{Done, Ended, Failed}
use Rattle.streams.specs.declared.Rest.{Rest}
use Rattle.streams.specs.Following.{Begins, Feeding, stopped, ended, failed, more}
use Rattle.streams.proofs.Feeding.{feeding_read, feeding_done, feeding_ended}
use Rattle.leak_log.specs.LeakOutput as output
use Rattle.leak_log.specs.LeakOutput.{Refused, Searchable, Output}
use Rattle.leak_log.specs.Opens as opens
use Rattle.leak_log.specs.Opens.{Opening}
use Rattle.leak_log.specs.declared.Searching.{Searching}
use Rattle.leak_log.specs.Feeding.{Block, found_by, Finished, Ran, not_opened, searched, Told, LeftBehind}
use Rattle.leak_log.specs.Taking.{block_counts}

-- ---- one line at the front of an output

line_is : {text out out' : List ℕ} {line : Option ℕ} → 64 ≤ length out → Written (room_for 0) out 0 text line out' → take (place_of line 0) out' ≡ text
line_is room (no_room full) = absurd (full (omega arith))
line_is {text = text} {out = out} room (written space fit) = take_is text out 0 (inr (omega arith))

put : {text out out' : List ℕ} {line : Option ℕ} (notion : Notion) (input : List ℕ) → 64 ≤ length out → Written (room_for 0) out 0 text line out'
    → Output notion input text → Output notion input (take (place_of line 0) out')
put notion input room w o = subst (Output notion input) (sym (line_is room w)) o

-- ---- blocks and reads

module _ (t : List ℕ) (h : Header) (well_formed : WellFormed t h) where
  -- a search that is within its limits searches each block
  advance_on : {s m : Search} {bytes : List ℕ} {says : Said} → InLimits h s.estimator → (s.found ≡ true → 1 ≤ s.accepted)
      → s.accepted + length bytes < 2 ^ 64 → Advancing t h s bytes says m → SearchedOn t h s bytes m
  advance_on limits placed few (Advancing.malformed bad) =
      absurd (bad (record { well_formed = well_formed; limits = limits; placed = placed; countable = λ e. few }))
  advance_on limits placed few (Advancing.searched within on) = on

  block_on : {s m : Searching} {bytes : List ℕ} → InLimits h s.search.estimator → (s.search.found ≡ true → 1 ≤ s.search.accepted)
      → s.search.accepted + length bytes < 2 ^ 64 → Block t h s bytes m → SearchedOn t h s.search bytes m.search
  block_on limits placed few b = advance_on limits placed few b.advancing

  -- ALL THAT WAS HANDED ON IS SEARCHED, IN ORDER
  feeding_on : {left : ℕ} {s : Searching} {bytes : List ℕ} {r : Rest Searching} → InLimits h s.search.estimator → (s.search.found ≡ true → 1 ≤ s.search.accepted)
      → s.search.accepted + left < 2 ^ 64 → Feeding (Block t h) found_by left s bytes r → SearchedOn t h s.search bytes r.follower.search
  feeding_on {s = s} limits placed few (stopped e) = on_start t h s.search limits placed
  feeding_on {s = s} limits placed few (ended e) = on_start t h s.search limits placed
  feeding_on {s = s} limits placed few (failed e) = on_start t h s.search limits placed
  feeding_on {s = s} {r = r} limits placed few (more {n = n} {m = m} input {later = later} e some there fits block y) =
      let size : length (take n input) ≡ n = length-take-le n input there in
      let here : SearchedOn t h s.search (take n input) m.search = block_on limits placed (omega (arith, few, size, fits)) block in
      on_then t h s.search m.search r.follower.search (take n input) later here
      (feeding_on here.limits here.placed (omega (arith, few, size, fits, block_counts block)) y)

-- the search of a log that has started, after the events among its first bytes and those that were handed on
all_searched : (notion : Notion) (t : List ℕ) (h : Header) (s : Search) (events : List ℕ) (b : Begun Searching) (limit : ℕ) (bytes : List ℕ)
    (r : Rest Searching) → length events ≤ 4294967295 → limit ≤ 4294967295 → Beginning notion t h no_further nowhere s
    → Block t h (record { search = s }) events b.follower → Feeding (Block t h) found_by limit b.follower bytes r
    → Searched notion t h no_further (events ++ bytes) r.follower.search
all_searched notion t h s events b limit bytes r few most (Beginning.begun so allowed limits going zero x) block feeding =
    let first : SearchedOn t h s events b.follower.search = block_on t h so limits (λ u. absent going u) (omega (arith, zero, few)) block in
    let rest = feeding_on t h so first.limits first.placed (omega (arith, first.most, zero, few, most)) feeding in
    (on_then t h s b.follower.search r.follower.search events bytes first rest).exact notion no_further [] x

-- ---- the events of an input, by its first bytes

-- the first `most` of three lists
module _ (most : ℕ) (later : List ℕ) where
  abbrev Split : (events bytes : List ℕ) → Type 0
  Split events bytes = take most (events ++ (bytes ++ later)) ≡ (take most events ++ bytes) ++ take (most - length (take most events) - length bytes) later

  split_few : (events bytes : List ℕ) → length events ≤ most → length bytes ≤ most - length events → Split events bytes
  split_few events bytes l k =
      let j = most - length events - length bytes in
      let outer : most ≡ length events + (most - length events) = omega arith in
      let inner : most - length events ≡ length bytes + j = omega arith in
      ap (λ (n : ℕ). take n (events ++ (bytes ++ later))) outer
      ∙ take-append-add events (bytes ++ later) (most - length events)
      ∙ ap (λ (n : ℕ). events ++ take n (bytes ++ later)) inner
      ∙ ap (λ (x : List ℕ). events ++ x) (take-append-add bytes later j)
      ∙ sym (append_assoc events bytes (take j later))
      ∙ ap (λ (x : List ℕ). (x ++ bytes) ++ take (most - length x - length bytes) later) (sym (take_all most events l))

  split_many : (events bytes : List ℕ) → most ≤ length events → length bytes ≤ most - length (take most events) → Split events bytes
  split_many events [] l k =
      let none : most - length (take most events) - 0 ≡ 0 = omega (arith, length-take-le most events l) in
      take-append-le most events later l ∙ sym (append-nil (take most events)) ∙ sym (append-nil (take most events ++ []))
      ∙ ap (λ (n : ℕ). (take most events ++ []) ++ take n later) (sym none)
  split_many events (x ∷ bytes) l k = absurd (omega (arith, length-take-le most events l))

  split : (events bytes : List ℕ) → length bytes ≤ most - length (take most events) → Split events bytes
  split events bytes k = go (dec_le (length events) most)
    where
      go : Dec (length events ≤ most) → Split events bytes
      go (yes l) = split_few events bytes l (omega (arith, ap length (take_all most events l)))
      go (no l) = split_many events bytes (omega (arith, l)) k

-- what stands behind the first bytes does not change how the input is opened
module _ (first rest : List ℕ) (whole : front_size first ≤ length first) where
  still_whole : front_size (first ++ rest) ≤ length (first ++ rest)
  still_whole = omega (arith, size_kept first rest whole, length-append first rest)

  still_searchable : (t : List ℕ) (h : Header) → Decodes first h accept t → Searchable (first ++ rest) t h
  still_searchable t h d = record { whole = still_whole; decodes = decodes_as (encoding_kept first rest whole) d }

  behind_front : (most : ℕ) → take most (drop (front_size (first ++ rest)) (first ++ rest)) ≡ take most (drop (front_size first) first ++ rest)
  behind_front most =
      ap (λ (n : ℕ). take most (drop n (first ++ rest))) (sym (size_kept first rest whole))
      ∙ ap (take most) (drop-append-le (front_size first) first rest whole)

-- all of it
pub record OnEvents (most : ℕ) (first bytes later : List ℕ) (t : List ℕ) (h : Header) : Type 0 where
  pub searchable : Searchable ((first ++ bytes) ++ later) t h
  pub events : take most (drop (front_size ((first ++ bytes) ++ later)) ((first ++ bytes) ++ later))
      ≡ (take most (drop (front_size first) first) ++ bytes) ++ take (most - length (take most (drop (front_size first) first)) - length bytes) later

pub on_events : (most : ℕ) (first bytes later t : List ℕ) (h : Header) → front_size first ≤ length first → Decodes first h accept t
    → length bytes ≤ most - length (take most (drop (front_size first) first)) → OnEvents most first bytes later t h
on_events most first bytes later t h whole d few =
    let e : first ++ (bytes ++ later) ≡ (first ++ bytes) ++ later = sym (append_assoc first bytes later) in
    record {
      searchable = subst (λ (x : List ℕ). Searchable x t h) e (still_searchable first (bytes ++ later) whole t h d);
      events = subst (λ (x : List ℕ). take most (drop (front_size x) x) ≡ (take most (drop (front_size first) first) ++ bytes)
          ++ take (most - length (take most (drop (front_size first) first)) - length bytes) later) e
          (behind_front first (bytes ++ later) whole most ∙ split most later (drop (front_size first) first) bytes few);
    }

-- ---- a log that was searched and read on

pub begun_well_formed : (notion : Notion) (t : List ℕ) (h : Header) (s : Search) → Beginning notion t h no_further nowhere s → WellFormed t h
begun_well_formed notion t h s (Beginning.begun so allowed limits going zero x) = so

few_of : (left n limit allowed k : ℕ) → left + n ≡ limit → limit ≤ allowed → allowed ≡ k → n ≤ k
few_of left n limit allowed k a b c = omega arith

most_of : (limit allowed m k : ℕ) → limit ≤ allowed → allowed ≡ m - k → limit ≤ m
most_of limit allowed m k a b = omega arith

pub few_taken : (n : ℕ) (l : List ℕ) → length (take n l) ≤ n
few_taken n l = omega (arith, length-take n l)

-- nothing more of the input counts
pub no_later : (k : ℕ) (l later : List ℕ) → (later ≡ []) ⊎ (k ≡ 0) → l ++ take k later ≡ l
no_later k l later (inl e) = ap (λ (x : List ℕ). l ++ take k x) e ∙ ap (λ (x : List ℕ). l ++ x) (take-nil {A = ℕ} k) ∙ append-nil l
no_later k l later (inr e) = ap (λ (n : ℕ). l ++ take n later) e ∙ append-nil l

module _ (notion : Notion) (first t : List ℕ) (h : Header) (s : Search) (b : Begun Searching) (limit : ℕ) (bytes : List ℕ) (r : Rest Searching)
    (whole : front_size first ≤ length first) (decodes : Decodes first h accept t) (begin : Beginning notion t h no_further nowhere s)
    (begins : Begins (Block t h) (record { search = s }) (drop (front_size first) first) b) (within : limit ≤ b.allowed) (feeding : Feeding (Block t h) found_by limit b.follower bytes r) where
  abbrev events : List ℕ
  events = take 4294967295 (drop (front_size first) first)

  few : length bytes ≤ 4294967295 - length events
  few = few_of r.left (length bytes) limit b.allowed (4294967295 - length events) (feeding_read feeding) within begins.allowed

  holds : Searched notion t h no_further (events ++ bytes) r.follower.search
  holds = all_searched notion t h s events b limit bytes r (few_taken 4294967295 (drop (front_size first) first))
      (most_of limit b.allowed 4294967295 (length events) within begins.allowed) begin begins.on feeding

  on : (later : List ℕ) → OnEvents 4294967295 first bytes later t h
  on later = on_events 4294967295 first bytes later t h whole decodes few

  -- the leak is found, whatever follows
  told_found : r.ending ≡ Done → (later : List ℕ) → Output notion ((first ++ bytes) ++ later) (place_line r.follower.search.accepted)
  told_found e later =
      let place = r.follower.search.accepted in
      let leak : FirstLeak notion t h no_further (events ++ bytes) place = holds.found (feeding_done feeding e) in
      let more = take (4294967295 - length events - length bytes) later in
      output.found (on later).searchable
      (subst (λ (l : List ℕ). FirstLeak notion t h no_further l place) (sym (on later).events)
      (first_kept notion t h no_further (begun_well_formed notion t h s begin) (events ++ bytes) more place leak))

  -- there is none, up to the end
  told_ended : r.ending ≡ Ended → (later : List ℕ) → (later ≡ []) ⊎ (b.allowed - length bytes ≡ 0)
      → Output notion ((first ++ bytes) ++ later) no_place_line
  told_ended e later end =
      let g = holds.not_found (feeding_ended feeding e) in
      let free : NoneLeaks notion t h no_further (events ++ bytes) = record { trace = g.trace; part = g.part; none_leaks = g.none_leaks } in
      let over : (later ≡ []) ⊎ (4294967295 - length events - length bytes ≡ 0) =
      subst (λ (k : ℕ). (later ≡ []) ⊎ (k - length bytes ≡ 0)) begins.allowed end in
      output.none (on later).searchable
      (subst (NoneLeaks notion t h no_further)
      (sym ((on later).events ∙ no_later (4294967295 - length events - length bytes) (events ++ bytes) later over)) free)

  told : (out out' : List ℕ) → 64 ≤ length out → (ending : Ending) → r.ending ≡ ending → (f : Finished ending r.follower.search out out')
      → Told notion (first ++ bytes) (b.allowed - length bytes) r.follower.search out out' ending f
  told out out' room Done e f = λ later. put notion ((first ++ bytes) ++ later) room f.put (told_found e later)
  told out out' room Ended e f = λ later end. put notion ((first ++ bytes) ++ later) room f.put (told_ended e later end)
  told out out' room Failed e f = f

-- ---- a refused log

pub refuses : {notion : Notion} {first t : List ℕ} {h : Header} {s : Search} {n : ℕ} (later : List ℕ) → (front_size first ≤ length first) ⊎ (later ≡ [])
    → Opening notion first (refused n) t h s → Refused (first ++ later) n
refuses later (inl l) (opens.truncated short out) = absurd (omega arith)
refuses {first = first} later (inr e) (opens.truncated short out) =
    subst (λ (x : List ℕ). Refused x 1) (sym (ap (λ (l : List ℕ). first ++ l) e ∙ append-nil first)) (output.truncated short)
refuses {first = first} later l (opens.not_decoded whole d out) =
    output.not_decoded (still_whole first later whole) (decodes_as (encoding_kept first later whole) d)

-- THE WHOLE LOG, from the contract of the function that runs it
pub ran_search : {notion : Notion} {first out : List ℕ} {size : ℕ} {out' : List ℕ} {over : ℕ} (r : Ran notion first out size out' over) → 64 ≤ length out
    → LeftBehind r
ran_search {notion} (not_opened r o l e) room = λ input f.
    put notion input room l.put (output.refused r (subst (λ (x : List ℕ). Refused x (number_of r)) f.splits (refuses f.later f.enough o)))
ran_search {notion} {first} {out} {size} {out'} (searched {t = t} {h = h} {s = s} {b = b} (opens.opened whole d begin) begins x) room =
    told notion first t h s b x.limit x.fed.bytes x.rest whole d begin begins x.limited.few x.fed.feeding out out' room x.rest.ending
    refl x.finished
