-- What a log has printed: with the lines that were written out before each read, the first bytes of the output are the output of all that was
-- handed on, by the definitions. Assumes nothing.
use Rattle.std.specs.Prelude.{Option}
use mathlib.Core.Path.{◌≡◌, refl, sym, ap, subst, ◌∙◌}
use mathlib.Core.List.{List, [], ◌++◌, append_assoc, append-nil}
use mathlib.Core.Logic.{◌⊎◌, inl, inr}
use Prim.Native.Nat.{ℕ, ◌+◌, ◌≤◌, ◌<◌}
use native.Mathlib.Omega.{arith}
use lib.ListN.{length, take, drop, length-append, take-append-drop}
use lib.Seq.{sets, drop-append-le, take-length, drop-length, take-append-le, take-append-add}
use Rattle.refusal.specs.Refusals.{number_of}
use Rattle.automaton.specs.declared.Header.{Header}
use Rattle.refusal.specs.declared.Refusal.{Refusal}
use Rattle.report.specs.Text.{refused_log}
use Rattle.report.specs.Writing.{room_for, room_at_end, Written, no_room, written}
use Rattle.monitor.specs.Stepping.{Within, Lines, place_of}
use Rattle.monitor.specs.Opening.{refused, started, Opening}
use Rattle.monitor.specs.Ending.{last_lines}
use Rattle.monitor.specs.Log.{Output}
use Rattle.monitor.specs.declared.Monitor.{Monitor}
use Rattle.monitor.specs.Running as running
use Rattle.monitor.specs.Running.{Front}
use Rattle.monitor.proofs.Openings.{started_within}
use Rattle.monitor.proofs.Following.{lines_none, lines_append}
use Rattle.monitor.proofs.LogOutput.{take_is, front_opens, started_usable, lines_output, log_output}
use Rattle.streams.specs.Writes.{RefusalLine}
use Rattle.log_output.specs.declared.Status.{Status}
use Rattle.log_output.specs.declared.Status.TheVariants.{Going, Ended, Failed, Closed}
use Rattle.log_output.specs.declared.Progress.{Progress}
use Rattle.log_output.specs.declared.Reading.{Reading}
use Rattle.log_output.specs.declared.Rest.{Rest}
use Rattle.log_output.specs.Progressing.{Usable, Roomy, free, emptied, closed, Stopped, Followed}
use Rattle.log_output.specs.Whole.{EndLines, begun, Begins, not_opened, opened, Finished, HasPrinted}
use Rattle.log_output.specs.Feeding as fed
use Rattle.log_output.specs.Feeding.{with_status, Turning, unwritten, brought_some, Feeding, Ran, LeftBehind, one_line, whole, not_read, not_written}
use Rattle.log_output.specs.Feeding.{no_last}
use Rattle.log_output.proofs.Keeping.{ended_not, failed_not, closed_not}
use Rattle.log_output.proofs.ReadingOn.{feeding_over}

-- why a log is no longer read on: all that was handed on is followed and the input has ended or a read failed, a log may have no more, or the output takes no
-- more
abbrev pub Left : Status → Progress → ℕ → List ℕ → Type 0
Left Going r n bytes = ⊥
Left Ended r n bytes = (n ≡ length bytes) ⊎ (r.monitor.offered ≡ 4294967295)
Left Failed r n bytes = n ≡ length bytes
Left Closed r n bytes = Unit {0}

module _ (t : List ℕ) (h : Header) where
  pub record Handed (p : Progress) (out bytes : List ℕ) (r : Progress) (out' : List ℕ) : Type 0 where
    pub taken : ℕ
    pub among : taken ≤ length bytes
    pub text : List ℕ
    pub lines : Lines t h p.monitor (take taken bytes) text r.monitor
    pub within : Within t h r.monitor
    pub few : r.monitor.offered ≤ 4294967295
    pub gone : List ℕ
    pub kept : gone ++ take r.at out' ≡ take p.at out ++ text
    pub inside : r.at ≤ length out'
    pub size : length out' ≡ length out
    pub left : Left r.status r taken bytes

  abbrev at_start : Progress → Progress
  at_start p = record { monitor = p.monitor; at = 0; status = p.status }

  -- nothing was read: the output takes no more, or it is written out
  none_closed : {p : Progress} {out : List ℕ} → Usable t h p out → Handed p out [] (with_status p Closed) out
  none_closed {p} {out} u = record {
    taken = 0;
    among = omega arith;
    text = [];
    lines = lines_none;
    within = u.within;
    few = u.few;
    gone = [];
    kept = sym (append-nil (take p.at out));
    inside = u.inside;
    size = refl;
    left = tt;
  }

  none_ended : {p : Progress} {out : List ℕ} → Usable t h p out → Handed p out [] (with_status (at_start p) Ended) out
  none_ended {p} {out} u =
      record {
        taken = 0;
        among = omega arith;
        text = [];
        lines = lines_none;
        within = u.within;
        few = u.few;
        gone = take p.at out;
        kept = refl;
        inside = omega arith;
        size = refl;
        left = inl refl;
      }

  none_failed : {p : Progress} {out : List ℕ} → Usable t h p out → Handed p out [] (with_status (at_start p) Failed) out
  none_failed {p} {out} u =
      record {
        taken = 0;
        among = omega arith;
        text = [];
        lines = lines_none;
        within = u.within;
        few = u.few;
        gone = take p.at out;
        kept = refl;
        inside = omega arith;
        size = refl;
        left = refl;
      }

  last_handed : {left : ℕ} {p : Progress} {out input : List ℕ} {r : Reading} {out' : List ℕ} → Usable t h p out → Turning t h left p out input r out'
      → r.brought ≡ 0
      → Handed p out [] r.progress out'
  last_handed u (unwritten (fed.emptied x) not) z = absurd (not u.going)
  last_handed u (unwritten fed.closed not) z = none_closed u
  last_handed u (fed.ended (fed.emptied x) g) z = none_ended u
  last_handed u (fed.ended fed.closed g) z = absurd (closed_not g)
  last_handed u (fed.failed (fed.emptied x) g) z = none_failed u
  last_handed u (fed.failed fed.closed g) z = absurd (closed_not g)
  last_handed u (brought_some w g some there fits f) z = absurd (omega arith)

  -- the output was written out before
  after_written : {p r : Progress} {out bytes out' : List ℕ} → Handed (at_start p) out bytes r out' → Handed p out bytes r out'
  after_written {p} {r} {out} {bytes} {out'} x = record {
    taken = x.taken;
    among = x.among;
    text = x.text;
    lines = x.lines;
    within = x.within;
    few = x.few;
    gone = take p.at out ++ x.gone;
    kept = append_assoc (take p.at out) x.gone (take r.at out') ∙ ap (λ (l : List ℕ). take p.at out ++ l) x.kept;
    inside = x.inside;
    size = x.size;
    left = x.left;
  }

  stopped_left : (s : Status) (r : Progress) (n : ℕ) (xs out : List ℕ) → (s ≡ Going → ⊥) → Stopped s r n xs out → Left s r n (xs ++ [])
  stopped_left Going r n xs out not x = absurd (not refl)
  stopped_left Ended r n xs out not x = inr x
  stopped_left Failed r n xs out not x = absurd x
  stopped_left Closed r n xs out not x = tt

  -- the bytes of one read, where the log does not go on
  still : {q r : Progress} {out xs out₁ : List ℕ} → Followed t h q xs out r out₁ → (r.status ≡ Going → ⊥) → Handed q out (xs ++ []) r out₁
  still {q} {r} {out} {xs} {out₁} a not =
      let f = a.far in
      record {
        taken = a.bytes;
        among = omega (arith, a.among, length-append xs []);
        text = f.text;
        lines = subst (λ (l : List ℕ). Lines t h q.monitor l f.text r.monitor) (sym (take-append-le a.bytes xs [] a.among)) f.lines;
        within = f.within;
        few = f.few;
        gone = f.gone;
        kept = f.kept;
        inside = f.inside;
        size = f.size;
        left = stopped_left r.status r a.bytes xs out₁ not a.stop;
      }

  left_more : (s : Status) (r : Progress) (n : ℕ) (xs ys : List ℕ) → Left s r n ys → Left s r (length xs + n) (xs ++ ys)
  left_more Going r n xs ys x = x
  left_more Ended r n xs ys (inl x) = inl (omega (arith, length-append xs ys))
  left_more Ended r n xs ys (inr x) = inr x
  left_more Failed r n xs ys x = omega (arith, length-append xs ys)
  left_more Closed r n xs ys x = tt

  all_taken : (s : Status) (xs out : List ℕ) (r : Progress) (n : ℕ) → s ≡ Going → Stopped s r n xs out → n ≡ length xs
  all_taken s xs out r n g x = subst (λ (k : Status). Stopped k r n xs out) g x

  -- the bytes of one read, and those behind them
  onward : {q r s : Progress} {out xs out₁ ys out₂ : List ℕ} → Followed t h q xs out r out₁ → r.status ≡ Going → Handed r out₁ ys s out₂
      → Handed q out (xs ++ ys) s out₂
  onward {q} {r} {s} {out} {xs} {out₁} {ys} {out₂} a g b =
      let f = a.far in
      let whole : take a.bytes xs ≡ xs = ap (λ (k : ℕ). take k xs) (all_taken r.status xs out₁ r a.bytes g a.stop) ∙ take-length xs in
      let front : take a.bytes xs ++ take b.taken ys ≡ take (length xs + b.taken) (xs ++ ys) =
      ap (λ (l : List ℕ). l ++ take b.taken ys) whole ∙ sym (take-append-add xs ys b.taken) in
      record {
        taken = length xs + b.taken;
        among = omega (arith, length-append xs ys, b.among);
        text = f.text ++ b.text;
        lines = subst (λ (l : List ℕ). Lines t h q.monitor l (f.text ++ b.text) s.monitor) front (lines_append f.lines b.lines);
        within = b.within;
        few = b.few;
        gone = f.gone ++ b.gone;
        kept = append_assoc f.gone b.gone (take s.at out₂) ∙ ap (λ (l : List ℕ). f.gone ++ l) b.kept
            ∙ sym (append_assoc f.gone (take r.at out₁) b.text)
            ∙ ap (λ (l : List ℕ). l ++ b.text) f.kept ∙ append_assoc (take q.at out) f.text b.text;
        inside = b.inside;
        size = b.size ∙ f.size;
        left = left_more s.status s b.taken xs ys b.left;
      }

  -- a log that does not go on is not read on
  not_on : {left : ℕ} {q r : Progress} {out xs out₁ ys : List ℕ} {s : Rest} {out₂ : List ℕ} → Followed t h q xs out r out₁ → (r.status ≡ Going → ⊥)
      → Feeding t h left r out₁ ys s out₂ → Handed q out (xs ++ ys) s.progress out₂
  not_on a not (fed.stopped n) = still a not
  not_on a not (fed.last g x) = absurd (not g)
  not_on a not (fed.more g some x f) = absurd (not g)

  going? : (s : Status) → (s ≡ Going) ⊎ (s ≡ Going → ⊥)
  going? Going = inl refl
  going? Ended = inr ended_not
  going? Failed = inr failed_not
  going? Closed = inr closed_not

  -- a read, and those behind it
  behind : {m : ℕ} {q r : Progress} {out xs out₁ later : List ℕ} {s : Rest} {out₂ : List ℕ} → Usable t h q out → Followed t h q xs out r out₁
      → Feeding t h m r out₁ later s out₂
      → (Usable t h r out₁ → Handed r out₁ later s.progress out₂) → (r.status ≡ Going) ⊎ (r.status ≡ Going → ⊥)
      → Handed q out (xs ++ later) s.progress out₂
  behind u a f more (inl g) =
      onward a g (more record { going = g; within = a.far.within; few = a.far.few; inside = a.far.inside; room = omega (arith, u.room, a.far.size) })
  behind u a f more (inr not) = not_on a not f

  next_handed : {left m : ℕ} {p : Progress} {out input : List ℕ} {x : Reading} {out₁ later : List ℕ} {s : Rest} {out₂ : List ℕ} → Usable t h p out
      → Turning t h left p out input x out₁ → 0 < x.brought
      → Feeding t h m x.progress out₁ later s out₂ → (Usable t h x.progress out₁ → Handed x.progress out₁ later s.progress out₂)
      → Handed p out (take x.brought input ++ later) s.progress out₂
  next_handed u (unwritten w n) some f more = absurd (omega arith)
  next_handed u (fed.ended w g) some f more = absurd (omega arith)
  next_handed u (fed.failed w g) some f more = absurd (omega arith)
  next_handed u (brought_some fed.closed g some' there fits a) some f more = absurd (closed_not g)
  next_handed {p = p} {out = out} u (brought_some {r = r} (fed.emptied y) g some' there fits a) some f more =
      let v : Usable t h (at_start p) out = record { going = g; within = u.within; few = u.few; inside = omega arith; room = u.room } in
      after_written (behind v (a v) f more (going? r.status))

  -- ALL THAT WAS HANDED ON IS FOLLOWED, IN ORDER, until the input ends, a read fails, a log may have no more, or the output takes no more
  pub handed : {left : ℕ} {p : Progress} {out bytes : List ℕ} {s : Rest} {out' : List ℕ} → Usable t h p out → Feeding t h left p out bytes s out'
      → Handed p out bytes s.progress out'
  handed u (fed.stopped n) = absurd (n u.going)
  handed u (fed.last g x) = last_handed u x refl
  handed u (fed.more g some x f) = next_handed u x some f (λ v. handed v f)

  -- the events among the first bytes of a log, and those that were read on
  pub begun_handed : {log out : List ℕ} {n : ℕ} {m : Monitor} {p : Progress} {out₁ : List ℕ} {limit : ℕ} {bytes : List ℕ} {s : Rest} {out₂ : List ℕ}
      → Opening log (started n) t h m
      → 256 ≤ length out → Followed t h (begun m) (drop n log) out p out₁ → Feeding t h limit p out₁ bytes s out₂
      → Handed (begun m) out (drop n log ++ bytes) s.progress out₂
  begun_handed {p = p} o room a f =
      let u = started_usable o in
      behind record { going = refl; within = u.0; few = omega (arith, u.1); inside = omega arith; room = room } a f (λ v. handed v f) (going? p.status)

why : (s : Status) (r : Progress) (n : ℕ) (bytes : List ℕ) → s ≡ Ended → Left s r n bytes → (drop n bytes ≡ []) ⊎ (r.monitor.offered ≡ 4294967295)
why Going r n bytes e x = absurd x
why Ended r n bytes e (inl x) = inl (ap (λ (k : ℕ). drop k bytes) x ∙ drop-length bytes)
why Ended r n bytes e (inr x) = inr x
why Failed r n bytes e x = inl (ap (λ (k : ℕ). drop k bytes) x ∙ drop-length bytes)
why Closed r n bytes e x = let z : ◌≡◌ {A = ℕ} 0 1 = cc in absurd (omega arith)

-- the last line, behind all others
record Last (r : Progress) (out text : List ℕ) (q : Progress) : Type 0 where
  gone : List ℕ
  kept : gone ++ take q.at out ≡ text
  room : q.at + 256 ≤ length out
  monitor : q.monitor ≡ r.monitor

last_of : {r q : Progress} {out text : List ℕ} (gone : List ℕ) → gone ++ take r.at out ≡ text → 256 ≤ length out → (q.status ≡ Closed → ⊥) → Roomy r out q
    → Last r out text q
last_of gone kept room not (free l) = record { gone = gone; kept = kept; room = l; monitor = refl }
last_of {r = r} {out = out} gone kept room not (emptied full l) =
    record { gone = gone ++ take r.at out; kept = append-nil (gone ++ take r.at out) ∙ kept; room = omega arith; monitor = refl }
last_of gone kept room not (closed full) = absurd (not refl)

print_last : {input out out' : List ℕ} {at : ℕ} (gone text end : List ℕ) {line : Option ℕ} → gone ++ take at out ≡ text → at + 256 ≤ length out
    → Output input (text ++ end)
    → Written room_at_end out at end line out' → HasPrinted input out' (place_of line 0)
print_last gone text end kept room o (no_room full) = absurd (full (omega arith))
print_last {input} {out} {at = at} gone text end kept room o (written space fit) =
    let all_of : gone ++ take (at + length end) (sets out at end) ≡ text ++ end =
    ap (λ (l : List ℕ). gone ++ l) (take_is end out at (inr (omega arith))) ∙ sym (append_assoc gone (take at out) end) ∙ ap (λ (l : List ℕ). l ++ end) kept in
    record { gone = gone; output = subst (Output input) (sym all_of) o }

-- a log that was read to its end: what it has printed, with what was written out before, is the output of its input
pub read_log : {input t out out₁ out₂ : List ℕ} {h : Header} {m : Monitor} {n : ℕ} {r : Progress} → Opening input (started n) t h m
    → Handed t h (begun m) out (drop n input) r out₁
    → 256 ≤ length out₁ → r.status ≡ Ended → (e : EndLines r out₁ out₂) → (not : e.last.status ≡ Closed → ⊥)
    → HasPrinted input out₂ (place_of (e.written not).line 0)
read_log {input} {t} {out} {out₁} {out₂} {h} {m} {n} {r} o x room ended e not =
    let l = last_of x.gone x.kept room not e.roomy in
    let all_lines = lines_output o (take-append-drop x.taken (drop n input)) x.lines x.few
    (why r.status r x.taken (drop n input) ended x.left) in
    print_last l.gone x.text (last_lines e.last.monitor) l.kept l.room
    (subst (λ (k : Monitor). Output input (x.text ++ last_lines k)) (sym l.monitor) all_lines) (e.written not).put

-- a log that has started, however the input was cut into reads: it was read on and ended, and the output took all
fed_log : {first input t out out₁ out₂ out₃ : List ℕ} {h : Header} {m : Monitor} {n limit : ℕ} {p : Progress} {s : Rest} (f : Front first input)
    → Opening first (started n) t h m
    → 256 ≤ length out → Followed t h (begun m) (drop n first) out p out₁ → Feeding t h limit p out₁ f.later s out₂ → s.progress.status ≡ Ended
    → (e : EndLines s.progress out₂ out₃) → (not : e.last.status ≡ Closed → ⊥) → HasPrinted input out₃ (place_of (e.written not).line 0)
fed_log {first} {input} {t} {out} {out₁} {out₂} {out₃} {h} {m} {n} {limit} {p} {s} f o room a feeding ended e not =
    let events : drop n first ++ f.later ≡ drop n input = sym (drop-append-le n first f.later (started_within o).1) ∙ ap (drop n) f.splits in
    let x = begun_handed t h o room a feeding in
    read_log {out = out} ((front_opens f).0 o) (subst (λ (l : List ℕ). Handed t h (begun m) out l s.progress out₂) events x)
    (omega (arith, x.size)) ended e not

-- a refused log: its one line
refused-log : {first input t out out' : List ℕ} {h : Header} {m : Monitor} (r : Refusal) → Front first input → Opening first (refused (number_of r)) t h m
    → 256 ≤ length out → (l : RefusalLine r out out') → HasPrinted input out' (place_of l.line 0)
refused-log {input = input} {out = out} {out' = out'} r f o room l = go out' l.line l.put
  where
    go : (after : List ℕ) (line : Option ℕ) → Written (room_for 0) out 0 (refused_log r) line after → HasPrinted input after (place_of line 0)
    go after line (no_room full) = absurd (full (omega arith))
    go after line (written space fit) = record {
      gone = [];
      output = log_output input (take (0 + length (refused_log r)) (sets out 0 (refused_log r))) (running.refused {out = out} {at = 0} r f o (written space fit));
    }

closed? : (s : Status) → (s ≡ Closed) ⊎ (s ≡ Closed → ⊥)
closed? Going = inr (λ e. closed_not (sym e))
closed? Ended = inr (λ e. let z : ◌≡◌ {A = ℕ} 0 1 = cc in omega arith)
closed? Failed = inr (λ e. let z : ◌≡◌ {A = ℕ} 0 1 = cc in omega arith)
closed? Closed = inl refl

-- an output that takes no more had no room for a line
full : {p q : Progress} {out : List ℕ} → Roomy p out q → p.status ≡ Ended → q.status ≡ Closed → p.at + 256 ≤ length out → ⊥
full (free l) e c = λ h. let z : ◌≡◌ {A = ℕ} 0 1 = cc in omega arith
full (emptied less l) e c = less
full (closed less) e c = less

module _ {first out : List ℕ} {size : ℕ} {out' : List ℕ} {over : ℕ} (r : Ran first out size out' over) (room : 256 ≤ length out) where
  -- the last line was put, or the output took no more
  ended_behind : {n : ℕ} {m : Monitor} → Opening first (started n) r.begun.table r.begun.header m
      → Followed r.begun.table r.begun.header (begun m) (drop n first) out r.begun.progress r.out₁ → r.rest.progress.status ≡ Ended
      → EndLines r.rest.progress r.out₂ out' → LeftBehind r
  ended_behind o a ended e = go (closed? e.last.status)
    where
      go : (e.last.status ≡ Closed) ⊎ (e.last.status ≡ Closed → ⊥) → LeftBehind r
      go (inl is) = no_last (full e.roomy ended is) (e.closed is)
      go (inr not) =
          whole e not
          (fed_log (record {
            later = r.fed.bytes;
            splits = refl;
            enough = inl (subst (λ (k : ℕ). k ≤ length first) (started_within o).0 (started_within o).1);
          }) o room a r.fed.feeding ended e not)

  opened_behind : {n : ℕ} {m : Monitor} → Opening first (started n) r.begun.table r.begun.header m
      → Followed r.begun.table r.begun.header (begun m) (drop n first) out r.begun.progress r.out₁
      → (s : Status) → r.rest.progress.status ≡ s → Finished s r.rest.progress r.out₂ out' → LeftBehind r
  opened_behind o a Going e f = absurd (feeding_over r.fed.feeding e)
  opened_behind o a Ended e f = ended_behind o a e f
  opened_behind o a Failed e f = not_read e f
  opened_behind o a Closed e f = not_written e f

  -- a refused log is not read on
  refused_still : {t : List ℕ} {h : Header} {left : ℕ} {p : Progress} {out₁ bytes : List ℕ} {s : Rest} {out₂ : List ℕ} → p.status ≡ Closed
      → Feeding t h left p out₁ bytes s out₂ → Finished s.progress.status s.progress out₂ out' → out' ≡ out₁
  refused_still {p = p} {out₁ = out₁} e (fed.stopped n) f = subst (λ (s : Status). Finished s p out₁ out') e f
  refused_still e (fed.last g x) f = absurd (closed_not (sym e ∙ g))
  refused_still e (fed.more g some x y) f = absurd (closed_not (sym e ∙ g))

  begun_behind : Begins first out r.begun r.out₁ → LeftBehind r
  begun_behind (not_opened n o e l) =
      one_line l (refused_still e r.fed.feeding r.finished) (λ input f. refused-log n f o room l)
  begun_behind (opened o a) = opened_behind o (a room) r.rest.progress.status refl r.finished

  -- THE WHOLE LOG, from the contract of the function that runs it
  pub ran_log : LeftBehind r
  ran_log = begun_behind r.begins
