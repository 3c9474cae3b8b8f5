-- What stands at the front of the output is an output of the input by the definitions. Assumes nothing.
use Rattle.std.specs.Prelude.{Option}
use mathlib.Core.Path.{◌≡◌, refl, sym, ap, subst, ◌∙◌}
use mathlib.Core.List.{List, [], ◌++◌, append-nil}
use mathlib.Core.Logic.{◌⊎◌, ◌↔◌, inl, inr}
use Prim.Native.Nat.{ℕ, ◌+◌, ◌-◌, ◌≤◌, ◌<◌, min}
use native.Mathlib.Omega.{arith}
use lib.ListN.{length, take, drop, length-append}
use lib.Seq.{sets, length-sets}
use Rattle.automaton.specs.Run.{automaton_of, Step, WellFormed}
use Rattle.automaton.specs.declared.Header.{Header}
use Rattle.refusal.specs.Refusals.{number_of}
use Rattle.refusal.specs.declared.Refusal.{Refusal}
use Rattle.decoding.specs.Decoding.{accept}
use Rattle.opacity.specs.Secrets.{own, no_further, look_back_of}
use Rattle.opacity.specs.declared.Notion.{Notion}
use Rattle.opacity.specs.declared.Notion.TheVariants.{Weak, Strong}
use Rattle.opacity.specs.declared.Further.{Further}
use Rattle.opacity.proofs.Numbering.{cleared_none, back_none}
use Rattle.verifier.specs.Estimators.{GrownOn}
use Rattle.verifier.specs.declared.Estimator.{Estimator}
use Rattle.verifier.proofs.Growing.{grown_limits}
use Rattle.leaks.specs.declared.Search.{Search}
use Rattle.leaks.specs.FirstLeaks.{nowhere, AcceptedPart}
use Rattle.leaks.specs.Searches.{Beginning}
use Rattle.witness.specs.Answers.{Usable, IsWitness}
use Rattle.witness.proofs.WholeTrace.{grown_witness}
use Rattle.report.specs.Text.{refused_log}
use Rattle.report.specs.Witnesses.{accepted_end}
use Rattle.report.specs.Writing.{room_for, Written, no_room, written}
use Rattle.monitor.specs.Log.{events_of}
use Rattle.monitor.specs.Opening as opening
use Rattle.monitor.specs.Opening.{front_size, Decodes}
use Rattle.monitor.specs.Stepping.{place_of}
use Rattle.monitor.proofs.LogOutput.{take_is}
use Rattle.leak_log.specs.LeakOutput.{Refused}
use Rattle.leak_log.specs.Opens.{Opening, opened}
use Rattle.leak_log.proofs.Beginnings.{drop_take}
use Rattle.leak_log.proofs.FedLeaks.{OnEvents, on_events, no_later, refuses, begun_well_formed}
use Rattle.witness_log.specs.WitnessOutput as output
use Rattle.witness_log.specs.WitnessOutput.{LineOf, LinesOf, none, more, Excuses, steps_of, Output}
use Rattle.streams.specs.declared.Begun.{Begun}
use Rattle.streams.specs.Following.{Begins}
use Rattle.witness_log.specs.Following.{After, On}
use Rattle.witness_log.specs.Putting.{PutOutput}
use Rattle.witness_log.specs.Printing.{Stands, Ran, refused, ended, failed, Ready, ReadOn, put, not_read}
use Rattle.witness_log.specs.declared.Followed.{Followed}

-- ---- a log that has begun

-- the events among the first bytes
pub among_first : {t : List ℕ} {h : Header} {s : Followed} {b : Begun Followed} (a n : ℕ) (input : List ℕ) → a ≤ n → n ≤ length input
    → Begins (On t h) s (take (n - a) (drop a input)) b → Begins (On t h) s (drop a (take (n - 0) input)) b
among_first {t} {h} {s} {b} a n input l k x =
    let z : n ≡ n - 0 = omega arith in
    subst (λ (e : List ℕ). Begins (On t h) s e b) (drop_take a n input l k ∙ ap (λ (i : ℕ). drop a (take i input)) z) x

abbrev pub start_of : Search → Followed
start_of s = record { estimator = s.estimator; accepted = 0 }

start_after : (t : List ℕ) (h : Header) (s : Search) → Beginning Weak t h no_further nowhere s → After t h [] (start_of s)
start_after t h s (Beginning.begun so allowed limits going zero x) =
    let g = x.not_found going in
    record { trace = g.trace; part = g.part; grown = g.grown; counted = sym zero ∙ g.counted; alone = x.same ∙ cleared_none no_further refl }

-- the first events
first_after : (t : List ℕ) (h : Header) (s : Search) (events : List ℕ) (f : Followed) → Beginning Weak t h no_further nowhere s → On t h (start_of s) events f
    → After t h events f
first_after t h s events f begin x = x.exact (begun_well_formed Weak t h s begin) [] (start_after t h s begin)

-- it is ready to be read on
pub ready : (first : List ℕ) (n : ℕ) (t : List ℕ) (h : Header) (s : Search) (b : Begun Followed) (size : ℕ) → Opening Weak first (opening.started n) t h s
    → Begins (On t h) (start_of s) (drop n first) b → b.follower.accepted + b.allowed ≤ 4294967295
    → 766656 ≤ size → Ready t h b size
ready first n t h s b size (opened whole d begin) x few room =
    let sound = begun_well_formed Weak t h s begin in
    record {
      well_formed = sound;
      bytes = take 4294967295 (drop (front_size first) first);
      after = first_after t h s (take 4294967295 (drop (front_size first) first)) b.follower begin x.on;
      few = few;
      room = room;
    }

-- what was followed can be asked for runs
pub after_usable : {t : List ℕ} {h : Header} {bytes : List ℕ} {f : Followed} → WellFormed t h → After t h bytes f → Usable t h f.estimator
after_usable {t} {h} {f = f} sound a =
    (sound, grown_limits (automaton_of t h) (look_back_of h f.estimator.further) a.trace f.estimator a.grown sound.symbols_small)

-- ---- the lines over the trace

same_line : {W X : (start : ℕ) → List Step → Type 0} {notion : Notion} {k : ℕ} {text : List ℕ}
    → ((start : ℕ) (steps : List Step) → W start steps ↔ X start steps) → LineOf W notion k text → LineOf X notion k text
same_line e (output.a_run {start = start} {steps = steps} w) = output.a_run ((e start steps).0 w)
same_line e (output.no_run never) = output.no_run (λ start steps x. never start steps ((e start steps).1 x))

same_lines : {W X : (k start : ℕ) → List Step → Type 0} {notion : Notion} {n : ℕ} {text : List ℕ}
    → ((k : ℕ) → k < n → (start : ℕ) (steps : List Step) → W k start steps ↔ X k start steps) → LinesOf W notion n text → LinesOf X notion n text
same_lines e none = none
same_lines {X = X} {notion = notion} e (more {k = k} x l) = more (same_lines (λ j less. e j (omega arith)) x) (same_line (e k (omega arith)) l)

module _ (t : List ℕ) (h : Header) (trace : List ℕ) (s : Estimator) (g : GrownOn t h trace s) (alone : s.further ≡ no_further) where
  count_is : s.count + 1 ≡ steps_of h trace
  count_is = ap (λ (n : ℕ). n + 1)
      (g.count_is ∙ ap (λ (k : ℕ). min k (length trace)) (sym (back_none h s.further (ap (λ (f : Further). f.count) alone))))

  trace_lines : (notion : Notion) (text : List ℕ) → LinesOf (IsWitness t h s notion 0) notion (s.count + 1) text
      → LinesOf (Excuses t h trace notion) notion (steps_of h trace) text
  trace_lines notion text x =
      subst (λ (n : ℕ). LinesOf (Excuses t h trace notion) notion n text) count_is
      (same_lines (λ k less start steps.
      grown_witness (automaton_of t h) (look_back_of h s.further) trace s g notion (own h).states k (omega arith) start steps) x)

-- ---- a log that was read to its end

split_length : (most events bytes : ℕ) → events + bytes ≡ most → most - events - bytes ≡ 0
split_length most events bytes e = omega arith

module _ (first t : List ℕ) (h : Header) (s : Search) (b : Begun Followed) (bytes : List ℕ) (f : Followed) (whole : front_size first ≤ length first)
    (decodes : Decodes first h accept t) (begin : Beginning Weak t h no_further nowhere s)
    (begins : Begins (On t h) (start_of s) (drop (front_size first) first) b) (few : length bytes ≤ b.allowed) (reads : On t h b.follower bytes f) where
  abbrev events : List ℕ
  events = take 4294967295 (drop (front_size first) first)

  followed : After t h (events ++ bytes) f
  followed = reads.exact (begun_well_formed Weak t h s begin) events (first_after t h s events b.follower begin begins.on)

  split : (later : List ℕ) → OnEvents 4294967295 first bytes later t h
  split later = on_events 4294967295 first bytes later t h whole decodes (subst (λ (k : ℕ). length bytes ≤ k) begins.allowed few)

  -- the events that were read
  events_read : events_of (first ++ bytes) ≡ events ++ bytes
  events_read =
      ap events_of (sym (append-nil (first ++ bytes))) ∙ (split []).events
      ∙ no_later (4294967295 - length events - length bytes) (events ++ bytes) [] (inl refl)

  -- and those of every input that begins so, where no more of it counts
  all_events : (later : List ℕ) → (later ≡ []) ⊎ (length (events_of (first ++ bytes)) ≡ 4294967295) → events_of ((first ++ bytes) ++ later) ≡ events ++ bytes
  all_events later end =
      (split later).events ∙ no_later (4294967295 - length events - length bytes) (events ++ bytes) later (over end)
    where
      over : (later ≡ []) ⊎ (length (events_of (first ++ bytes)) ≡ 4294967295) → (later ≡ []) ⊎ (4294967295 - length events - length bytes ≡ 0)
      over (inl e) = inl e
      over (inr e) = inr (split_length 4294967295 (length events) (length bytes)
          (sym (length-append events bytes) ∙ sym (ap length events_read) ∙ e))

  -- ITS LINES ARE AN OUTPUT OF IT
  pub read_stands : (n : ℕ) (out' : List ℕ) → PutOutput t h f out' n → (later : List ℕ)
      → (later ≡ []) ⊎ (length (events_of (first ++ bytes)) ≡ 4294967295) → Stands ((first ++ bytes) ++ later) n out'
  read_stands n out' x later end =
      let a = followed in
      let lines = trace_lines t h a.trace f.estimator a.grown a.alone in
      let text : take n out' ≡ x.weak ++ (x.strong ++ accepted_end (length a.trace)) =
      x.front ∙ ap (λ (k : ℕ). x.weak ++ (x.strong ++ accepted_end k)) a.counted in
      record {
        there = x.there;
        output = subst (Output ((first ++ bytes) ++ later)) (sym text)
            (output.ended (split later).searchable
            (subst (λ (l : List ℕ). AcceptedPart t h no_further [] l a.trace) (sym (all_events later end)) a.part)
            (lines Weak x.weak x.weak_lines) (lines Strong x.strong x.strong_lines));
      }

-- ---- the whole log

pub ran_read : (first out : List ℕ) (n : ℕ) (t : List ℕ) (h : Header) (s : Search) (b : Begun Followed) (r : ℕ) (out' : List ℕ)
    → Opening Weak first (opening.started n) t h s → Begins (On t h) (start_of s) (drop n first) b → ReadOn t h b out r out' → Ran first out r out'
ran_read first out n t h s b r out' (opened whole d begin) x (put {f = f} bytes few on o) =
    ended bytes (λ later end. read_stands first t h s b bytes f whole d begin x few on r out' o later end)
ran_read first out n t h s b r out' (opened whole d begin) x not_read = failed

-- a line that has room stands at the front of the output
line_is : {text out out' : List ℕ} {line : Option ℕ} {n : ℕ} → 64 ≤ length out → Written (room_for 0) out 0 text line out' → n ≡ place_of line 0
    → (n ≤ length out') × (take n out' ≡ text)
line_is room (no_room narrow) e = absurd (narrow (omega arith))
line_is {text} {out} room (written space fit) e =
    (omega (arith, length-sets out 0 text), ap (λ (k : ℕ). take k (sets out 0 text)) e ∙ take_is text out 0 (inr (omega arith)))

pub ran_refused : (first out : List ℕ) (r : Refusal) (t : List ℕ) (h : Header) (s : Search) (line : Option ℕ) (out' : List ℕ) (n : ℕ)
    → Opening Weak first (opening.refused (number_of r)) t h s → 766656 ≤ length out → Written (room_for 0) out 0 (refused_log r) line out' → n ≡ place_of line 0
    → Ran first out n out'
ran_refused first out r t h s line out' n o room w e =
    let x = line_is {text = refused_log r} (omega arith) w e in
    refused (λ input f. record {
      there = x.0;
      output = subst (Output input) (sym x.1)
          (output.refused r (subst (λ (l : List ℕ). Refused l (number_of r)) f.splits (refuses f.later f.enough o)));
    })
