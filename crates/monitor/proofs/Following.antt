-- Event bytes one after another. Assumes nothing.
use mathlib.Core.Path.{◌≡◌, refl, sym, ap, ap₂, subst, ◌∙◌}
use mathlib.Core.List.{List, [], ◌∷◌, ◌++◌, append-nil}
use mathlib.Core.Logic.{◌⊎◌, inl, inr, ⊎_elim}
use Prim.Native.Nat.{ℕ, ◌+◌, ◌≤◌, ◌<◌}
use native.Mathlib.Omega.{arith}
use lib.ListN.{length, get_or, length-append}
use lib.Seq.{sets}
use Rattle.automaton.specs.declared.Header.{Header}
use Rattle.lists.specs.Calls.{Chain, done, next}
use Rattle.lists.proofs.Filled.{sets_append}
use Rattle.lists.proofs.Chains.{chain_append, joined_append}
use Rattle.report.proofs.Laws.{take_one}
use Rattle.monitor.specs.Stepping.{Within, Stepping, not_verified, not_enforced, accepted, Event, Followed, bytes_of, Lines, Printed, Stepped}
use Rattle.monitor.specs.Advancing.{taken, Ready, Advancing, advanced, Along}
use Rattle.monitor.specs.declared.Monitor.{Monitor}
use Rattle.monitor.specs.declared.Advance.{Advance}

-- the lines of a log are the same however its bytes are cut into reads
pub lines_append : {t : List ℕ} {h : Header} {m n e : Monitor} {xs ys text more : List ℕ} → Lines t h m xs text n → Lines t h n ys more e
    → Lines t h m (xs ++ ys) (text ++ more) e
lines_append p q = record {
  events = p.events ++ q.events;
  steps = chain_append p.steps q.steps;
  bytes_are = joined_append (λ v. v.byte ∷ []) p.events q.events ∙ ap₂ (λ (a b : List ℕ). a ++ b) p.bytes_are q.bytes_are;
  text_is = joined_append (λ v. v.line) p.events q.events ∙ ap₂ (λ (a b : List ℕ). a ++ b) p.text_is q.text_is;
}

pub lines_none : {t : List ℕ} {h : Header} {m : Monitor} → Lines t h m [] [] m
lines_none = record { events = []; steps = done; bytes_are = refl; text_is = refl }

lines_one : {t : List ℕ} {h : Header} {m e : Monitor} {byte : ℕ} {text : List ℕ} → Stepping t h m byte text e → Lines t h m (byte ∷ []) text e
lines_one {byte = byte} {text = text} s =
    record { events = record { byte = byte; line = text } ∷ []; steps = next s done; bytes_are = refl; text_is = append-nil text }

-- every event byte is counted, whatever becomes of it
counts_one : {t : List ℕ} {h : Header} {m e : Monitor} {byte : ℕ} {text : List ℕ} → Stepping t h m byte text e → e.offered ≡ m.offered + 1
counts_one (not_verified r acc) = refl
counts_one (not_enforced r acc wide off) = refl
counts_one (accepted j acc wide off) = refl

steps_count : {t : List ℕ} {h : Header} {m e : Monitor} {vs : List Event} → Chain (Followed t h) m vs e → e.offered ≡ m.offered + length (bytes_of vs)
steps_count done = omega arith
steps_count (next s ls) = omega (arith, counts_one s, steps_count ls)

pub lines_count : {t : List ℕ} {h : Header} {m e : Monitor} {bytes text : List ℕ} → Lines t h m bytes text e → e.offered ≡ m.offered + length bytes
lines_count {m = m} ls = steps_count ls.steps ∙ ap (λ (l : List ℕ). m.offered + length l) ls.bytes_are

printed_append : {out out' out'' xs ys : List ℕ} {at to to' : ℕ} → Printed out at xs to out' → Printed out' to ys to' out'' → Printed out at (xs ++ ys) to' out''
printed_append {out} {out'} {out''} {xs} {ys} {at} {to} {to'} p q = record {
  bytes = q.bytes ∙ ap (λ (l : List ℕ). sets l to ys) p.bytes ∙ ap (λ (k : ℕ). sets (sets out at xs) k ys) p.place ∙ sets_append xs ys out at;
  place = omega (arith, length-append xs ys, p.place, q.place);
  inside = ⊎_elim (λ e. subst (λ (l : List ℕ). (l ≡ []) ⊎ (at + length l ≤ length out)) (sym (ap (λ (l : List ℕ). xs ++ l) e ∙ append-nil xs)) p.inside)
      (λ h. inr (omega (arith, length-append xs ys, p.place, p.size))) q.inside;
  size = q.size ∙ p.size;
}

pub along_start : (t : List ℕ) (h : Header) (m : Monitor) (events out : List ℕ) (at : ℕ) → Within t h m → m.offered ≤ 4294967295
    → Along t h m events out at m at 0 out
along_start t h m events out at b few = record {
  among = omega arith;
  text = [];
  lines = lines_none;
  printed = record { bytes = refl; place = omega arith; inside = inl refl; size = refl };
  within = b;
  few = few;
}

pub along_next : (t : List ℕ) (h : Header) (m : Monitor) (events out : List ℕ) (at : ℕ) (e : Monitor) (to i : ℕ) (out' : List ℕ) (e' : Monitor) (to' : ℕ)
    (out'' : List ℕ)
    → Along t h m events out at e to i out' → i < length events → Ready e out' to → Stepped t h e (get_or events i 0) out' to e' to' out''
    → Along t h m events out at e' to' (i + 1) out''
along_next t h m events out at e to i out' e' to' out'' a l ready s = record {
  among = omega arith;
  text = a.text ++ s.text;
  lines = subst (λ (bs : List ℕ). Lines t h m bs (a.text ++ s.text) e') (take_one events i l) (lines_append a.lines (lines_one s.steps));
  printed = printed_append a.printed s.printed;
  within = s.within;
  few = omega (arith, ready.allowed, counts_one s.steps);
}

-- at the end the bytes are all taken, or the monitor is not ready
pub along_end : (t : List ℕ) (h : Header) (m : Monitor) (events out : List ℕ) (at : ℕ) (e : Monitor) (to i : ℕ) (out' : List ℕ) → Within t h m
    → Along t h m events out at e to i out' → (i ≡ length events) ⊎ (Ready e out' to → ⊥) → Advancing t h m events out at
    (taken (record { taken = i; next = to })) e out'
along_end t h m events out at e to i out' b a stop =
    let here : (l : List ℕ) (k : ℕ) → l ≡ sets out at a.text → k ≡ at + length a.text → (i ≡ length events) ⊎ (Ready e l k → ⊥)
    → Advancing t h m events out at (taken (record { taken = i; next = k })) e l =
    λ l k x y s. rw (x, y) (advanced b a.among a.lines a.within a.printed.inside a.few (rw (x, y) at s)) in
    here out' to a.printed.bytes a.printed.place stop

-- no more bytes are taken than there are
pub taken_within : {t : List ℕ} {h : Header} {m : Monitor} {events out : List ℕ} {at : ℕ} {a : Advance} {e : Monitor} {out' : List ℕ}
    → Advancing t h m events out at (taken a) e out' → a.taken ≤ length events
taken_within (advanced b within lines b' inside few stop) = within
