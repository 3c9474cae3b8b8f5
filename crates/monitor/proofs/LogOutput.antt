-- What the monitor's functions write for an input, called as a program calls them, is the output by the definitions. Assumes nothing.
use Rattle.std.specs.Prelude.{Some}
use mathlib.Core.Path.{◌≡◌, refl, sym, ap, subst, ◌∙◌}
use mathlib.Core.List.{List, [], ◌∷◌, ◌++◌, append_assoc, append-nil}
use mathlib.Core.Logic.{◌⊎◌, inl, inr, ◌↔◌}
use Prim.Native.Nat.{ℕ, ◌+◌, ◌-◌, ◌≤◌, ◌<◌}
use native.Mathlib.Nat.{add-zero}
use native.Mathlib.Omega.{arith}
use native.Mathlib.Decide.{dec_lt}
use lib.ListN.{length, get_or, take, drop, length-append, length-drop, length-take, take-append-drop, get_or-append}
use lib.Seq.{sets, sets-eq, length-sets, slice, slice_empty, take_at, drop_at, take_all, take-nil, take-append-le, drop-append-le, drop-length, length-take-le}
use Rattle.lists.specs.Calls.{Chain, done, next}
use Rattle.automaton.specs.Run.{automaton_of, WellFormed}
use Rattle.automaton.specs.declared.Header.{Header}
use Rattle.decoding.specs.Decoding.{Outcome, Decoding}
use Rattle.opacity.specs.declared.Notion.TheVariants.{Weak}
use Rattle.opacity.specs.Secrets.{own, no_further, secrets_of, secret_at}
use Rattle.opacity.specs.Verdicts.{leak, Tells}
use Rattle.verifier.proofs.Growing.{grown_limits}
use Rattle.enforcer.specs.declared.Enforcer.{Enforcer}
use Rattle.enforcer.specs.Enforcers as enforcers
use Rattle.enforcer.specs.Offerings.{not_started, Starting}
use Rattle.enforcer.specs.SafePrefix.{Safe}
use Rattle.report.specs.Text.{idle_line, end_line}
use Rattle.report.specs.Writing.{Written, written}
use Rattle.monitor.specs.Stepping.{Within, Event, Followed, bytes_of, lines_of, Lines}
use Rattle.monitor.specs.Opening as opening
use Rattle.monitor.specs.Opening.{front_size, encoding_of, Fresh, Decodes, Opening}
use Rattle.monitor.specs.Advancing as advancing
use Rattle.monitor.specs.Advancing.{AdvanceOutcome, Advancing}
use Rattle.monitor.specs.Ending.{last_lines}
use Rattle.monitor.specs.LogText.{Prints}
use Rattle.monitor.specs.Log as log
use Rattle.monitor.specs.Log.{events_of, OpeningLeak, Refused, Monitored, Output}
use Rattle.monitor.specs.Running as running
use Rattle.monitor.specs.Running.{Front, taken_by, written_by, Follows, all, stops, call, Runs}
use Rattle.monitor.specs.declared.Monitor.{Monitor}
use Rattle.monitor.proofs.Following.{lines_none, lines_append, lines_count}
use Rattle.decoding.proofs.Listing.{decoded_well_formed}
use Rattle.monitor.proofs.Endings.{with_none, with_some}
use Rattle.monitor.proofs.LogPromise.{log_promise}
use Rattle.monitor.proofs.OneOutput.{one_output}

-- two inputs of which one is opened as the other is
pub decodes_as : {a b t : List ℕ} {h : Header} {o : Outcome} → encoding_of a ≡ encoding_of b → Decodes a h o t → Decodes b h o t
decodes_as {a} {b} {t} {h} {o} e d = record {
  before = d.before;
  words = d.words;
  decoding =
      subst (λ (x : List ℕ). Decoding x d.before h o t) e d.decoding;
}

opens_as : (a b : List ℕ) → front_size a ≡ front_size b → encoding_of a ≡ encoding_of b → front_size a ≤ length a → front_size b ≤ length b
    → {says : opening.OpenOutcome} {t : List ℕ} {h : Header} {m : Monitor} → Opening a says t h m → Opening b says t h m
opens_as a b size same la lb (Opening.truncated short out) = absurd (omega arith)
opens_as a b size same la lb (Opening.not_decoded le d out) = Opening.not_decoded (omega arith) (decodes_as same d) out
opens_as a b size same la lb (Opening.initial_leak l d start out) = Opening.initial_leak lb (decodes_as same d) start out
opens_as a b size same la lb {t = t} {h = h} {m = m} (Opening.opened l d fresh) =
    subst (λ (k : ℕ). Opening b (opening.started k) t h m) (sym size) (Opening.opened lb (decodes_as same d) fresh)

pub size_kept : (first later : List ℕ) → front_size first ≤ length first → front_size first ≡ front_size (first ++ later)
size_kept first later l =
    let high : get_or (first ++ later) 0 0 ≡ get_or first 0 0 = get_or-append first later 0 0 (omega arith) in
    let low : get_or (first ++ later) 1 0 ≡ get_or first 1 0 = get_or-append first later 0 1 (omega arith) in
    omega arith

pub encoding_kept : (first later : List ℕ) → front_size first ≤ length first → encoding_of first ≡ encoding_of (first ++ later)
encoding_kept first later l =
    sym (ap (λ (k : ℕ). take (k - 2) (drop 2 (first ++ later))) (sym (size_kept first later l))
    ∙ ap (take (front_size first - 2)) (drop-append-le 2 first later (omega arith))
    ∙ take-append-le (front_size first - 2) (drop 2 first) later (omega (arith, length-drop 2 first)))

-- an input is opened as its first bytes are: more of them change nothing
pub front_opens : {first input : List ℕ} → Front first input → {says : opening.OpenOutcome} {t : List ℕ} {h : Header} {m : Monitor}
    → Opening first says t h m ↔ Opening input says t h m
front_opens {first} {input} f {says} {t} {h} {m} =
    subst (λ (x : List ℕ). Opening first says t h m ↔ Opening x says t h m) f.splits (go f.later f.enough)
  where
    go : (later : List ℕ) → (front_size first ≤ length first) ⊎ (later ≡ []) → Opening first says t h m ↔ Opening (first ++ later) says t h m
    go later (inl l) =
        let more : front_size (first ++ later) ≤ length (first ++ later) = omega (arith, size_kept first later l, length-append first later) in (
          (λ o. opens_as first (first ++ later) (size_kept first later l) (encoding_kept first later l) l more o),
          (λ o. opens_as (first ++ later) first (sym (size_kept first later l)) (sym (encoding_kept first later l)) more l o),
        )
    go later (inr e) =
        let same : first ≡ first ++ later = sym (ap (λ (l : List ℕ). first ++ l) e ∙ append-nil first) in (
          (λ o. subst (λ (x : List ℕ). Opening x says t h m) same o),
          (λ o. subst (λ (x : List ℕ). Opening x says t h m) (sym same) o),
        )

-- what stands in an output up to the end of a text that was written
take_sets : (text out : List ℕ) (at : ℕ) → at + length text ≤ length out → take (at + length text) (sets out at text) ≡ take at out ++ text
take_sets text out at l =
    let size : length (take at out) ≡ at = length-take-le at out (omega arith) in
    ap (take (at + length text)) (sets-eq text out at l)
    ∙ take_at (take at out ++ text) (drop (at + length text) out) (at + length text) (omega (arith, length-append (take at out) text))

pub take_is : (text out : List ℕ) (at : ℕ) → (text ≡ []) ⊎ (at + length text ≤ length out) → take (at + length text) (sets out at text) ≡ take at out ++ text
take_is [] out at h = ap (λ (k : ℕ). take k out) (add-zero at) ∙ sym (append-nil (take at out))
take_is (x ∷ l) out at (inl e) = let z : ◌≡◌ {A = ℕ} 0 1 = cc in absurd (omega arith)
take_is (x ∷ l) out at (inr h) = take_sets (x ∷ l) out at h

-- and from its start on
slice_sets : (text out : List ℕ) (at : ℕ) → at + length text ≤ length out → slice at (at + length text) (sets out at text) ≡ text
slice_sets text out at l = ap (drop at) (take_sets text out at l) ∙ drop_at (take at out) text at (length-take-le at out (omega arith))

slice_is : (text out : List ℕ) (at : ℕ) → (text ≡ []) ⊎ (at + length text ≤ length out) → slice at (at + length text) (sets out at text) ≡ text
slice_is [] out at h = ap (λ (k : ℕ). slice at k out) (add-zero at) ∙ slice_empty at out
slice_is (x ∷ l) out at (inl e) = let z : ◌≡◌ {A = ℕ} 0 1 = cc in absurd (omega arith)
slice_is (x ∷ l) out at (inr h) = slice_sets (x ∷ l) out at h

line_is : {room at : ℕ} {out text : List ℕ} {next : ℕ} {out' : List ℕ} → Written room out at text (Some next) out' → slice at next out' ≡ text
line_is {at = at} {out = out} {text = text} (written free fit) = slice_sets text out at (omega arith)

no_lines : {t : List ℕ} {h : Header} {m e : Monitor} {text : List ℕ} → Lines t h m [] text e → (text ≡ []) × (e ≡ m)
no_lines ls = let x = none ls.events ls.steps ls.bytes_are in (sym ls.text_is ∙ x.0, x.1)
  where
    none : {t : List ℕ} {h : Header} {m e : Monitor} (vs : List Event) → Chain (Followed t h) m vs e → bytes_of vs ≡ [] → (lines_of vs ≡ []) × (e ≡ m)
    none vs done b = (refl, refl)
    none vs (next s rest) b = absurd (omega (arith, ap length b))

-- what one call of `advance` does
pub record Called (t : List ℕ) (h : Header) (m : Monitor) (events out : List ℕ) (at : ℕ) (says : AdvanceOutcome) (e : Monitor) (out' : List ℕ) : Type 0 where
  pub within : Within t h e
  pub among : taken_by says ≤ length events
  pub lines : Lines t h m (take (taken_by says) events) (written_by says at out') e
  pub few : e.offered ≤ 4294967295
  -- with room for a line it takes none only where a log may have no more
  pub stop : taken_by says ≡ 0 → 0 < length events → at + 256 ≤ length out → e.offered ≡ 4294967295

pub called : (t : List ℕ) (h : Header) (m : Monitor) (events out : List ℕ) (at : ℕ) (says : AdvanceOutcome) (e : Monitor) (out' : List ℕ) → Within t h m
    → Advancing t h m events out at says e out' → Called t h m events out at says e out'
called t h m events out at says e out' w (Advancing.malformed bad) = absurd (bad w)
called t h m events out at says e out' w (Advancing.advanced {n = n} {text = text} b among lines after inside few stop) = record {
  within = after;
  among = among;
  lines = subst (λ (l : List ℕ). Lines t h m (take n events) l e) (sym (slice_is text out at inside)) lines;
  few = few;
  stop = λ zero some room. full zero some room stop (dec_lt e.offered 4294967295);
}
  where
    full : n ≡ 0 → 0 < length events → at + 256 ≤ length out → (n ≡ length events) ⊎ (advancing.Ready e (sets out at text) (at + length text) → ⊥)
        → Dec (e.offered < 4294967295)
        → e.offered ≡ 4294967295
    full zero some room (inl all_taken) d = absurd (omega arith)
    full zero some room (inr no_more) (no d) = omega arith
    full zero some room (inr no_more) (yes d) =
        let none : text ≡ [] = (no_lines (subst (λ (k : ℕ). Lines t h m (take k events) text e) zero lines)).0 in
        absurd (no_more record { room = omega (arith, ap length none, length-sets out at text); allowed = omega arith })

-- the event bytes that were taken, and why no more of them were
record Fed (t : List ℕ) (h : Header) (m : Monitor) (left text : List ℕ) (e : Monitor) : Type 0 where
  bytes : List ℕ
  rest : List ℕ
  splits : bytes ++ rest ≡ left
  lines : Lines t h m bytes text e
  few : e.offered ≤ 4294967295
  stop : (rest ≡ []) ⊎ (e.offered ≡ 4294967295)

fed : {t : List ℕ} {h : Header} {m e : Monitor} {left text : List ℕ} → Within t h m → m.offered ≤ 4294967295 → Follows t h m left text e
    → Fed t h m left text e
fed w few all = record { bytes = []; rest = []; splits = refl; lines = lines_none; few = few; stop = inl refl }
fed {t} {h} {m} {e} {left} w few (stops {events = events} {out = out} {out' = out'} {at = at} later says cut some room a none) =
    let c = called t h m events out at says e out' w a in
    record {
      bytes = [];
      rest = left;
      splits = refl;
      lines = subst (λ (k : ℕ). Lines t h m (take k events) (written_by says at out') e) none c.lines;
      few = c.few;
      stop = inr (c.stop none some room);
    }
fed {t} {h} {m} {e} {left} w few (call {n = n} {events = events} {out = out} {out' = out'} {at = at} later says cut a f) =
    let c = called t h m events out at says n out' w a in
    let y = fed c.within c.few f in
    let k = taken_by says in
    let front : take k events ≡ take k left = sym (take-append-le k events later c.among) ∙ ap (take k) cut in
    record {
      bytes = take k events ++ y.bytes;
      rest = y.rest;
      splits = append_assoc (take k events) y.bytes y.rest ∙ (λ i. front i ++ y.splits i) ∙ take-append-drop k left;
      lines = lines_append c.lines y.lines;
      few = y.few;
      stop = y.stop;
    }

-- those are the events of the input
fed_events : {left bytes rest : List ℕ} → bytes ++ rest ≡ left → length bytes ≤ 4294967295 → (rest ≡ []) ⊎ (length bytes ≡ 4294967295)
    → bytes ≡ take 4294967295 left
fed_events {left} {bytes} {rest} e few (inl none) = sym (ap (take 4294967295) (sym e ∙ ap (λ (l : List ℕ). bytes ++ l) none ∙ append-nil bytes)
    ∙ take_all 4294967295 bytes few)
fed_events {left} {bytes} {rest} e few (inr full) = sym (ap (take 4294967295) (sym e) ∙ take_at bytes rest 4294967295 full)

-- a fresh monitor is within its limits, and nobody is sure before the first event
fresh_within : (t : List ℕ) (h : Header) (m : Monitor) → WellFormed t h → Fresh t h m → Within t h m
fresh_within t h m so f = record {
  well_formed = so;
  estimator = grown_limits (automaton_of t h) _ [] m.estimator f.estimator so.symbols_small;
  enforcer = f.enforcer.limits;
  balanced = record { among = omega (arith, f.accepted, f.offered); balance = omega (arith, f.accepted, f.released, f.enforcer.queue.few) };
}

no_secret : (t : List ℕ) (h : Header) (s : Enforcer) → enforcers.GrownOn Weak t h [] s → OpeningLeak Weak t h → ⊥
no_secret t h s g opens =
    let safe : Safe Weak (automaton_of t h) (own h) [] 0 =
    subst (λ (l : List ℕ). Safe Weak (automaton_of t h) (own h) l 0) (take-nil {A = ℕ} (0 - s.count)) (g.queue.longest.safe.each 0 (omega arith)) in
    safe 0 (omega arith) (omega arith) opens.sure

-- where a start with no further secret is refused by 8, it is the automaton's own that opens as leak 0
secret_open : (t : List ℕ) (h : Header) (s : Enforcer) → Starting t h no_further Weak (not_started 8) s → OpeningLeak Weak t h
secret_open t h s (Starting.initial_leak so allowed opens out) =
    let first : opens.number ≡ 0 = omega (arith, opens.given) in
    let tells : Tells Weak (automaton_of t h) (own h) [] (leak 0) =
    subst (λ (i : ℕ). Tells Weak (automaton_of t h) (secret_at (secrets_of h no_further) i) [] (leak 0)) first opens.tells in
    record { within = tells.within; reached = tells.reached; sure = tells.sure }

refuses : {input t : List ℕ} {h : Header} {m : Monitor} {n : ℕ} → Opening input (opening.refused n) t h m → Refused input n
refuses (Opening.truncated short out) = log.truncated short
refuses (Opening.not_decoded le d out) = log.not_decoded le d
refuses (Opening.initial_leak {t' = t'} {h' = h'} {e = s} l d start out) = log.initial_leak l d (secret_open t' h' s start)

-- whether a log has events: with none it is idle
no_events : (input : List ℕ) → length input ≡ front_size input → events_of input ≡ []
no_events input e = ap (λ (k : ℕ). take 4294967295 (drop k input)) (sym e) ∙ ap (take 4294967295) (drop-length input) ∙ take-nil {A = ℕ} 4294967295

some_taken : (n : ℕ) (l : List ℕ) → 0 < n → 0 < length l → 0 < length (take n l)
some_taken n l some there = omega (arith, length-take n l)

some_events : (input : List ℕ) → front_size input < length input → 0 < length (events_of input)
some_events input l = some_taken 4294967295 (drop (front_size input) input) (omega arith) (omega (arith, length-drop (front_size input) input))

ends_there : (input : List ℕ) → (front_size input < length input → ⊥) → front_size input ≤ length input → length input ≡ front_size input
ends_there input none whole = omega (arith, none)

-- the end of a fresh monitor is the output of an idle log
fresh_idle : {input t : List ℕ} {h : Header} {m : Monitor} → Monitored input t h → Fresh t h m → length input ≡ front_size input → Output input (last_lines m)
fresh_idle {input} {t} {h} {m} monitored f e =
    let pending : 0 ≡ m.enforcer.count = omega (arith, f.enforcer.queue.few) in
    subst (Output input) ((λ i. idle_line m.opening.verdicts.own.weak m.opening.verdicts.own.strong
    m.opening.size ++ end_line (sym f.accepted i) (sym f.released i) (pending i)) ∙ with_none m f.offered)
    (log.idle m.opening.verdicts.own m.opening.size monitored e f.opening)

-- the lines of all events that a log may have, and the last lines
pub lines_output : {input t bytes rest text : List ℕ} {h : Header} {m e : Monitor} {n : ℕ} → Opening input (opening.started n) t h m
    → bytes ++ rest ≡ drop n input
    → Lines t h m bytes text e → e.offered ≤ 4294967295 → (rest ≡ []) ⊎ (e.offered ≡ 4294967295)
    → Output input (text ++ last_lines e)
lines_output {input} {t} {bytes} {rest} {text} {h} {m} {e} (Opening.opened l d fresh) splits lines few stop =
    let counted : length bytes ≡ e.offered = omega (arith, lines_count lines, fresh.offered) in
    let all_of : bytes ≡ events_of input = fed_events splits (omega arith) (subst (λ (k : ℕ). (rest ≡ []) ⊎ (k ≡ 4294967295)) (sym counted) stop) in
    go record { whole = l; decodes = d; closed = no_secret t h m.enforcer fresh.enforcer } all_of counted (dec_lt (front_size input) (length input))
  where
    go : Monitored input t h → bytes ≡ events_of input → length bytes ≡ e.offered → Dec (front_size input < length input) → Output input (text ++ last_lines e)
    go monitored is counted (yes some) =
        let x = log_promise input (front_size input) t h m bytes text e (Opening.opened l d fresh) lines in
        let pending : length x.trace - e.released ≡ e.enforcer.count = omega (arith, x.pending) in
        let positive : 0 < length bytes = subst (λ (k : List ℕ). 0 < length k) (sym is) (some_events input some) in
        let last = (λ i. end_line (sym x.accepted i) e.released (pending i)) ∙ with_some e (subst (λ (k : ℕ). 0 < k) counted positive) in
        subst (Output input) (ap (λ (l : List ℕ). text ++ l) last)
        (log.ended monitored some (subst (λ (bs : List ℕ). Prints t h [] 0 bs text x.trace e.released) is x.prints))
    go monitored is counted (no none) =
        let all-front : length input ≡ front_size input = ends_there input none monitored.whole in
        let still = no_lines (subst (λ (bs : List ℕ). Lines t h m bs text e) (is ∙ no_events input all-front) lines) in
        subst (Output input) (λ i. sym still.0 i ++ last_lines (sym still.1 i)) (fresh_idle monitored fresh all-front)

-- a log that has started is within its limits, and no event byte is counted yet
pub started_usable : {input t : List ℕ} {h : Header} {m : Monitor} {n : ℕ} → Opening input (opening.started n) t h m → Within t h m × (m.offered ≡ 0)
started_usable {input} {t} {h} {m} (Opening.opened l d fresh) = (
  fresh_within t h m (decoded_well_formed (encoding_of input) d.before h t d.decoding) fresh,
  fresh.offered,
)

monitors : {input t text : List ℕ} {h : Header} {m e : Monitor} {n : ℕ} → Opening input (opening.started n) t h m → Follows t h m (drop n input) text e
    → Output input (text ++ last_lines e)
monitors o f =
    let s = started_usable o in
    let y = fed s.0 (omega (arith, s.1)) f in
    lines_output o y.splits y.lines y.few y.stop

-- the calls for an input write its output
pub log_output : (input text : List ℕ) → Runs input text → Output input text
log_output input text (running.refused r f o w) = subst (Output input) (sym (line_is w)) (log.refused r (refuses ((front_opens f).0 o)))
log_output input text (running.ended {text = lines} f o calls w) = subst (Output input) (ap (λ (l : List ℕ). lines ++ l) (sym (line_is w)))
    (monitors ((front_opens f).0 o) calls)

-- and nothing else, however the input was cut into reads and the output into writes
pub prints_exactly : (input text : List ℕ) → Runs input text → (other : List ℕ) → (text ≡ other) ↔ Output input other
prints_exactly input text r other = (
  (λ e. subst (Output input) e (log_output input text r)),
  (λ o. one_output input (log_output input text r) o),
)
