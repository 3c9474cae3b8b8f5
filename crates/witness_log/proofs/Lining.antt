-- Lines that are put: what the writer of runs answers, one line behind another, and all of them at the front of an output. Assumes nothing.
use Rattle.std.specs.Prelude.{Option, Result, Ok, Err}
use mathlib.Core.Path.{◌≡◌, refl, ap, sym, subst, ◌∙◌}
use mathlib.Core.List.{List, [], ◌++◌}
use mathlib.Core.Logic.{inr}
use Prim.Native.Nat.{ℕ, ◌+◌, ◌*◌, ◌-◌, ◌≤◌, ◌<◌, ◌^◌}
use native.Mathlib.Omega.{arith}
use lib.ListN.{length, take, length-take}
use lib.Seq.{sets, length-sets}
use Rattle.automaton.specs.declared.Header.{Header}
use Rattle.refusal.specs.Refusals.{number_of}
use Rattle.refusal.specs.declared.Refusal.{Refusal}
use Rattle.opacity.specs.Secrets.{no_further}
use Rattle.opacity.specs.declared.Notion.{Notion}
use Rattle.opacity.specs.declared.Notion.TheVariants.{Weak, Strong}
use Rattle.opacity.specs.declared.Further.{Further}
use Rattle.opacity.proofs.Numbering.{look_back_small, back_none}
use Rattle.verifier.specs.Estimators.{InLimits}
use Rattle.verifier.specs.declared.Estimator.{Estimator}
use Rattle.witness.specs.Witnesses.{bytes_of}
use Rattle.witness.specs.Answers.{Usable, InReachOf, IsWitness, WritingIn, refused, told, Writing, no_run, too_far, too_small, looked_for}
use Rattle.witness.specs.Traces.{WrittenRun}
use Rattle.witness.specs.declared.Run.{Run}
use Rattle.witness.proofs.Answering.{exact_writing}
use Rattle.report.specs.Witnesses.{witness_line, no_witness_line, accepted_end}
use Rattle.report.specs.Writing.{room_for, Written, no_room, written, Wrote}
use Rattle.report.proofs.Laws.{then, same, none as nothing}
use Rattle.monitor.specs.Stepping.{place_of}
use Rattle.monitor.proofs.LogOutput.{take_is}
use Rattle.witness_log.specs.WitnessOutput as output
use Rattle.witness_log.specs.WitnessOutput.{LineOf, more}
use Rattle.witness_log.specs.Putting.{PutLine, PutLines, PutOutput}
use Rattle.witness_log.specs.declared.Followed.{Followed}

-- ---- what is asked for

-- no more symbols are remembered than the largest K
pub count_small : (t : List ℕ) (h : Header) (s : Estimator) → Usable t h s → s.count ≤ 15
count_small t h s u = omega (arith, u.1.few, look_back_small h s.further u.0.back u.1.allowed)

-- each step that is remembered is in reach
pub in_reach : (h : Header) (s : Estimator) (k : ℕ) → InLimits h s → s.further ≡ no_further → k ≤ s.count → InReachOf h s 0 k
in_reach h s k limits alone few = record {
  given = omega arith;
  back = omega (arith, limits.few, back_none h s.further (ap (λ (f : Further). f.count) alone));
  reached = few;
}

-- ---- one line

-- a line that has room is written
line_wrote : {room m at n : ℕ} {out out' text : List ℕ} {line : Option ℕ} → Written room out at text line out' → at + m ≤ length out → room ≤ m
    → n ≡ place_of line 0 → Wrote m out at text out' n
line_wrote (no_room narrow) fits small e = absurd (narrow (omega arith))
line_wrote {at = at} {out = out} {text = text} (written space fit) fits small e =
    record { bytes = refl; place = e; limit = omega arith; size = length-sets out at text }

module _ (t : List ℕ) (h : Header) (s : Estimator) (notion : Notion) (k : ℕ) (usable : Usable t h s) (reach : InReachOf h s 0 k)
    (lent : List ℕ) (space : length lent ≡ 2172) where
  -- the only refusal is that there is no run
  none_found : (n : ℕ) (after : List ℕ) → WritingIn t h s notion 0 k lent (refused n) after
      → (start : ℕ) (steps : List _) → IsWitness t h s notion 0 k start steps → ⊥
  none_found n after (Writing.malformed bad) = absurd (bad usable)
  none_found n after (too_far u far) = absurd (far reach)
  none_found n after (too_small u r short) = absurd (omega arith)
  none_found n after (looked_for u r room (no_run never)) = never

  pub no_line : (a : Result Run Refusal) (r : Refusal) (after : List ℕ) → a ≡ Err r → WritingIn t h s notion 0 k lent (told a) after
      → (out : List ℕ) (at : ℕ) (line : Option ℕ) (out' : List ℕ) (n : ℕ) → at + 23956 ≤ length out
      → Written (room_for 0) out at (no_witness_line notion k) line out' → n ≡ place_of line 0 → PutLine t h s notion k out at out' n
  no_line a r after is w out at line out' n fits put e = record {
    text = no_witness_line notion k;
    line = output.no_run (none_found (number_of r) after (subst (λ (x : Result Run Refusal). WritingIn t h s notion 0 k lent (told x) after) is w));
    wrote = line_wrote put fits (omega arith) e;
  }

  -- a run that was written
  pub written_run : (a : Result Run Refusal) (run : Run) (after : List ℕ) → a ≡ Ok run → WritingIn t h s notion 0 k lent (told a) after
      → WrittenRun (IsWitness t h s notion 0 k) lent run.start run.pairs after
  written_run a run after is w =
      (exact_writing (Usable t h s) (InReachOf h s 0 k) (IsWitness t h s notion 0 k) lent usable (told (Ok run)) after
      (subst (λ (x : Result Run Refusal). WritingIn t h s notion 0 k lent (told x) after) is w)).run run.start run.pairs refl

  pub run_room : (start pairs : ℕ) (after : List ℕ) → WrittenRun (IsWitness t h s notion 0 k) lent start pairs after
      → (2 * pairs < 2 ^ 64) × (2 * pairs ≤ length after)
  run_room start pairs after x = (omega (arith, x.few), omega (arith, x.few, x.size))

  pub run_line : (start pairs : ℕ) (after : List ℕ) → WrittenRun (IsWitness t h s notion 0 k) lent start pairs after
      → (out : List ℕ) (at : ℕ) (line : Option ℕ) (out' : List ℕ) (n : ℕ) → at + 23956 ≤ length out
      → Written (room_for (length (take (2 * pairs - 0) after))) out at (witness_line notion k start (take (2 * pairs - 0) after)) line out' → n ≡ place_of line 0
      → PutLine t h s notion k out at out' n
  run_line start pairs after x out at line out' n fits put e =
      let z : 2 * pairs - 0 ≡ 2 * pairs = omega arith in
      let bytes : take (2 * pairs - 0) after ≡ bytes_of x.steps = ap (λ (i : ℕ). take i after) z ∙ x.front in
      record {
        text = witness_line notion k start (take (2 * pairs - 0) after);
        line = subst (λ (l : List ℕ). LineOf (IsWitness t h s notion 0 k) notion k (witness_line notion k start l)) (sym bytes) (output.a_run x.holds);
        wrote = line_wrote put fits (omega (arith, length-take (2 * pairs - 0) after, x.size)) e;
      }

-- ---- lines, one behind another

module _ (t : List ℕ) (h : Header) (s : Estimator) (notion : Notion) where
  pub lines_none : (out : List ℕ) (at : ℕ) → PutLines t h s notion 0 out at out at
  lines_none out at = record { text = []; lines = output.none; wrote = same refl (omega arith) nothing }

  pub lines_more : (k : ℕ) (out : List ℕ) (at : ℕ) (mid : List ℕ) (next : ℕ) (out' : List ℕ) (n : ℕ) → PutLines t h s notion k out at mid next
      → PutLine t h s notion k mid next out' n → PutLines t h s notion (k + 1) out at out' n
  lines_more k out at mid next out' n a b = record {
    text = a.text ++ b.text;
    lines = more a.lines b.line;
    wrote = same refl (omega arith) (then a.wrote b.wrote);
  }

  pub lines_all : (k n : ℕ) (out : List ℕ) (at : ℕ) (out' : List ℕ) (next : ℕ) → k ≡ n → PutLines t h s notion k out at out' next
      → PutLines t h s notion n out at out' next
  lines_all k n out at out' next e x = subst (λ (i : ℕ). PutLines t h s notion i out at out' next) e x

-- ---- all of them

-- a text at the front of an output
front_is : (text out out' : List ℕ) (n : ℕ) → out' ≡ sets out 0 text → n ≡ 0 + length text → n ≤ length out → take n out' ≡ text
front_is text out out' n bytes place fits =
    ap (take n) bytes ∙ ap (λ (i : ℕ). take i (sets out 0 text)) place ∙ take_is text out 0 (inr (omega arith))

pub output_put : (t : List ℕ) (h : Header) (f : Followed) (out mid out₂ : List ℕ) (weak strong : ℕ) (line : Option ℕ) (out' : List ℕ) (n : ℕ)
    → Usable t h f.estimator → 766656 ≤ length out
    → PutLines t h f.estimator Weak (f.estimator.count + 1) out 0 mid weak
    → PutLines t h f.estimator Strong (f.estimator.count + 1) mid weak out₂ strong
    → Written (room_for 0) out₂ strong (accepted_end f.accepted) line out' → n ≡ place_of line 0 → PutOutput t h f out' n
output_put t h f out mid out₂ weak strong line out' n u room a b last e =
    let few = count_small t h f.estimator u in
    let end : Wrote (room_for 0) out₂ strong (accepted_end f.accepted) out' n =
    line_wrote last (omega (arith, a.wrote.limit, b.wrote.limit, a.wrote.size, b.wrote.size)) (omega arith) e in
    let all : Wrote _ out 0 (a.text ++ (b.text ++ accepted_end f.accepted)) out' n = then a.wrote (then b.wrote end) in
    let there : n ≤ length out' = omega (arith, all.limit, all.size) in
    record {
      weak = a.text;
      strong = b.text;
      weak_lines = a.lines;
      strong_lines = b.lines;
      there = there;
      front = front_is (a.text ++ (b.text ++ accepted_end f.accepted)) out out' n all.bytes all.place (omega (arith, all.size));
    }
