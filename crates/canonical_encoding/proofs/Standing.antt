-- What stands at the front of the output: the form that `canonical` wrote, or the line of its refusal; and it is the output of every input that begins so
-- where what was gathered is longer than any encoding. Assumes nothing.
use Rattle.std.specs.Prelude.{Option}
use mathlib.Core.Path.{◌≡◌, refl, sym, ap, subst, ◌∙◌}
use mathlib.Core.List.{List, [], ◌∷◌, ◌++◌}
use mathlib.Core.Logic.{inr}
use Prim.Native.Nat.{ℕ, ◌-◌, ◌≤◌, ◌<◌}
use native.Mathlib.Omega.{arith}
use lib.ListN.{length, take, length-take}
use lib.Seq.{take_all, length-sets}
use Rattle.refusal.specs.Refusals.{number_of}
use Rattle.refusal.specs.declared.Refusal.{Refusal}
use Rattle.decoding.proofs.Longest.{longest_encoding}
use Rattle.decoding.proofs.Longer.{longer_same}
use Rattle.canonical.specs.Meanings.{meaning_of}
use Rattle.canonical.specs.Writing.{wrote, refuse, Writing}
use Rattle.canonical.proofs.OneForm.{form_longest}
use Rattle.canonical.proofs.Calls.{call_wrote, front_is}
use Rattle.report.specs.Text.{decimal, line, refused_log}
use Rattle.report.specs.Writing.{room_for, Written, no_room, written}
use Rattle.streams.specs.declared.Gathered.{Gathered}
use Rattle.streams.specs.declared.Gathered.TheVariants.{Bytes, All}
use Rattle.streams.specs.Reads.{Filled}
use Rattle.monitor.specs.Stepping.{place_of}
use Rattle.monitor.proofs.LogOutput.{take_is}
use Rattle.canonical_encoding.specs.FormOutput.{OutputOf, form, refusal}
use Rattle.canonical_encoding.specs.Answering.{Stands, Answers, ended, full}

-- the form
pub form_stands : (bytes output after : List ℕ) (n : ℕ) → Writing bytes output (wrote n) after → Stands bytes n after
form_stands bytes output after n w =
    let c = call_wrote bytes output after n w in
    let front = front_is bytes output after n c in record {
      there = omega (arith, length-take n after, ap length front, c.number_is);
      output = subst (OutputOf bytes) (sym front) (form c.meaning c.means);
    }

-- the line of a refusal
line_stands : {bytes text out out' : List ℕ} {line : Option ℕ} → OutputOf bytes text → 2210 ≤ length out → Written (room_for 0) out 0 text line out'
    → Stands bytes (place_of line 0) out'
line_stands o room (no_room narrow) = absurd (narrow (omega arith))
line_stands {bytes} {text} {out} o room (written space fit) = record {
  there = omega (arith, length-sets out 0 text);
  output = subst (OutputOf bytes) (sym (take_is text out 0 (inr (omega arith)))) o;
}

-- a refusal of `canonical` is the decoder's, and the output is kept for the line: an output of 2,210 bytes is not too small for any form
refusal_kept : (bytes output after : List ℕ) (k : ℕ) (r : Refusal) → k ≡ number_of r → 2210 ≤ length output → Writing bytes output (refuse k) after
    → OutputOf bytes (refused_log r) × (2210 ≤ length after)
refusal_kept bytes output after k r e room (Writing.refused q d) =
    (subst (λ (n : ℕ). OutputOf bytes (line ((114 ∷ 101 ∷ 102 ∷ 117 ∷ 115 ∷ 101 ∷ 100 ∷ []) ∷ decimal n ∷ []))) e (refusal q d), room)
refusal_kept bytes output after k r e room (Writing.too_small f next d l) =
    absurd (omega (arith, form_longest bytes (meaning_of f) (record { encoded = f; next = next; decodes = d; meaning = refl })))

pub refusal_stands : (bytes output after : List ℕ) (r : Refusal) (line : Option ℕ) (out' : List ℕ) → 2210 ≤ length output
    → Writing bytes output (refuse (number_of r)) after → Written (room_for 0) after 0 (refused_log r) line out' → Stands bytes (place_of line 0) out'
refusal_stands bytes output after r line out' room w p =
    let kept = refusal_kept bytes output after (number_of r) r refl room w in
    line_stands kept.0 kept.1 p

-- bytes that are longer than any encoding: whatever follows
longer_output : {first text : List ℕ} → 2210 < length first → OutputOf first text → (more : List ℕ) → OutputOf (first ++ more) text
longer_output {first} l (form m x) more = absurd (omega (arith, longest_encoding first x.decodes))
longer_output {first} l (refusal r e) more = refusal r (longer_same first more l ∙ e)

-- what was gathered, as it is handed on: the first n bytes of what was lent
pub ends : (input out : List ℕ) (k n : ℕ) (out' : List ℕ) (g : Gathered) → g ≡ All k → Filled input g → Stands (take (k - 0) input) n out'
    → Answers input out g n out'
ends input out k n out' g e f s =
    let whole : k - 0 ≡ k = omega arith in
    subst (λ (x : Gathered). Answers input out x n out') (sym e)
    (ended (subst (Filled input) e f) (subst (λ (j : ℕ). Stands (take j input) n out') whole s))

pub fills : (input out : List ℕ) (k n : ℕ) (out' : List ℕ) (g : Gathered) → g ≡ Bytes k → Filled input g → 2210 < length input
    → Stands (take (k - 0) input) n out' → Answers input out g n out'
fills input out k n out' g e f l s =
    let filled : k ≡ length input = subst (Filled input) e f in
    let all : take (k - 0) input ≡ input = take_all (k - 0) input (omega arith) in
    subst (λ (x : Gathered). Answers input out x n out') (sym (e ∙ ap Bytes filled))
    (full (λ more. record { there = s.there; output = longer_output l (subst (λ (x : List ℕ). OutputOf x (take n out')) all s.output) more }))
