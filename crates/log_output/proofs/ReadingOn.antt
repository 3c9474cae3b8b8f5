-- Laws of reading on: one more read, and read after read. Assumes nothing.
use mathlib.Core.Path.{◌≡◌, refl, sym, ap, subst, ◌∙◌}
use mathlib.Core.List.{List, [], ◌++◌, append_assoc}
use mathlib.Core.Logic.{◌⊎◌, inl, inr}
use Prim.Native.Nat.{ℕ, ◌-◌, ◌≤◌, min}
use native.Mathlib.Omega.{arith}
use native.Mathlib.Decide.{dec_le}
use lib.ListN.{length, take}
use lib.Seq.{length-take-le}
use Rattle.automaton.specs.declared.Header.{Header}
use Rattle.streams.specs.declared.Fetched.{Fetched}
use Rattle.streams.specs.Reads.{Brought}
use Rattle.log_output.specs.declared.Status.TheVariants.{Going}
use Rattle.log_output.specs.declared.Progress.{Progress}
use Rattle.log_output.specs.declared.Reading.{Reading}
use Rattle.log_output.specs.declared.Rest.{Rest}
use Rattle.log_output.specs.Progressing.{Usable, Followed}
use Rattle.log_output.specs.Feeding.{WrittenOut, TakenIn, followed_all, no_more, not_fetched, Turning}
use Rattle.log_output.specs.Feeding.{unwritten, ended, failed, brought_some, Feeding, stopped, last, more, Fed, Limit, Ran, Monitors, ran}
use Rattle.log_output.proofs.Keeping.{ended_not, failed_not}

-- the part of the input from its start on
pub whole_front : {t : List ℕ} {h : Header} {q r : Progress} (n : ℕ) (input : List ℕ) {out out' : List ℕ}
    → (Usable t h q out → Followed t h q (take (n - 0) input) out r out')
    → Usable t h q out → Followed t h q (take n input) out r out'
whole_front {t} {h} {q} {r} n input {out} {out'} f u = let e : n - 0 ≡ n = omega arith in subst (λ (k : ℕ). Followed t h q (take k input) out r out') e (f u)

-- one more read
pub taken_turn : {t : List ℕ} {h : Header} {left : ℕ} {p q : Progress} {out input out' : List ℕ} {f : Fetched} {r : Reading} → TakenIn t h q out input f r out'
    → WrittenOut p out q
    → q.status ≡ Going → Brought (length input) left f → Turning t h left p out input r out'
taken_turn (followed_all x) w g b = brought_some w g b.0 b.1 b.2 x
taken_turn no_more w g b = ended w g
taken_turn not_fetched w g b = failed w g

pub brought_le : {t : List ℕ} {h : Header} {left : ℕ} {p : Progress} {out input : List ℕ} {r : Reading} {out' : List ℕ} → Turning t h left p out input r out'
    → r.brought ≤ left
brought_le (unwritten w n) = omega arith
brought_le (ended w g) = omega arith
brought_le (failed w g) = omega arith
brought_le (brought_some w g some there fits f) = fits

-- the last read leaves a log that does not go on
pub last_over : {t : List ℕ} {h : Header} {left : ℕ} {p : Progress} {out input : List ℕ} {r : Reading} {out' : List ℕ} → Turning t h left p out input r out'
    → r.brought ≡ 0
    → r.progress.status ≡ Going → ⊥
last_over (unwritten w n) z g = n g
last_over (ended w going) z g = ended_not g
last_over (failed w going) z g = failed_not g
last_over (brought_some w going some there fits f) z g = omega arith

-- THE LOOP NEVER RETURNS WHILE THE LOG GOES ON
pub feeding_over : {t : List ℕ} {h : Header} {left : ℕ} {p : Progress} {out bytes : List ℕ} {r : Rest} {out' : List ℕ} → Feeding t h left p out bytes r out'
    → r.progress.status ≡ Going → ⊥
feeding_over (stopped n) g = n g
feeding_over (last going t) g = last_over t refl g
feeding_over (more going some t f) g = feeding_over f g

-- the reads so far: whatever follows on from here follows on from the start
pub record SoFar (t : List ℕ) (h : Header) (left : ℕ) (p : Progress) (out : List ℕ) (rest : ℕ) (now : Progress) (out₁ : List ℕ) : Type 0 where
  pub bytes : List ℕ
  pub on : (later : List ℕ) (r : Rest) (out₂ : List ℕ) → Feeding t h rest now out₁ later r out₂ → Feeding t h left p out (bytes ++ later) r out₂

pub so_start : {t : List ℕ} {h : Header} {left : ℕ} {p : Progress} {out : List ℕ} → SoFar t h left p out left p out
so_start = record { bytes = []; on = λ later r out₂ f. f }

pub so_more : {t : List ℕ} {h : Header} {left : ℕ} {p : Progress} {out : List ℕ} {rest : ℕ} {now : Progress} {out₁ input : List ℕ} {r : Reading} {out₂ : List ℕ}
    → SoFar t h left p out rest now out₁
    → now.status ≡ Going → Turning t h rest now out₁ input r out₂ → (r.brought ≡ 0 → ⊥) → SoFar t h left p out (rest - r.brought) r.progress out₂
so_more {t} {h} {left} {p} {out} {input = input} {r = r} so going turn not = record {
  bytes = so.bytes ++ take r.brought input;
  on = λ later s out₃ f. subst (λ (l : List ℕ). Feeding t h left p out l s out₃) (sym (append_assoc so.bytes (take r.brought input) later))
      (so.on (take r.brought input ++ later) s out₃ (more going (omega (arith, not)) turn f));
}

pub fed_stopped : {t : List ℕ} {h : Header} {left : ℕ} {p : Progress} {out : List ℕ} {rest : ℕ} {now : Progress} {out₁ : List ℕ}
    → SoFar t h left p out rest now out₁
    → (now.status ≡ Going → ⊥) → Fed t h left p out (record { progress = now; left = rest }) out₁
fed_stopped so not = record { bytes = so.bytes ++ []; feeding = so.on [] _ _ (stopped not) }

pub fed_last : {t : List ℕ} {h : Header} {left : ℕ} {p : Progress} {out : List ℕ} {rest : ℕ} {now : Progress} {out₁ input : List ℕ} {r : Reading}
    {out₂ : List ℕ} → SoFar t h left p out rest now out₁
    → now.status ≡ Going → Turning t h rest now out₁ input r out₂ → r.brought ≡ 0 → Fed t h left p out (record { progress = r.progress; left = rest }) out₂
fed_last {t} {h} {rest = rest} {now = now} {out₁ = out₁} {input = input} {r = r} {out₂ = out₂} so going turn e = record {
  bytes = so.bytes ++ [];
  feeding = so.on [] _ _ (last going (subst (λ (n : ℕ). Turning t h rest now out₁ input (record { progress = r.progress; brought = n }) out₂) e turn));
}

-- the lesser of what a log may still have and what there is
pub limits : (p : Progress) (size : ℕ) {a r : ℕ} → a ≡ 4294967295 - p.monitor.offered → r ≡ min a size → Limit p size r
limits p size {a} {r} e is = record { allowed = omega arith; there = omega arith; reached = go (dec_le a size) }
  where
    go : Dec (a ≤ size) → (r ≡ 4294967295 - p.monitor.offered) ⊎ (r ≡ size)
    go (yes l) = inl (omega arith)
    go (no l) = inr (omega arith)

-- a log whose first bytes were gathered
pub runs : (input : List ℕ) {n size : ℕ} {out out' : List ℕ} {over : ℕ} → n ≤ length input → n ≤ size → Ran (take (n - 0) input) out (size - n) out' over
    → Monitors size out over out'
runs input {n} h few r = let z : n - 0 ≡ n = omega arith in ran (ap (λ (k : ℕ). length (take k input)) z ∙ length-take-le n input h) few r
