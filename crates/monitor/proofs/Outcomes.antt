-- A step's outcome, from what the verifier and the enforcer answered and what was printed. Assumes nothing.
use Rattle.std.specs.Prelude.{Option}
use mathlib.Core.Path.{◌≡◌, refl, sym, ap, subst}
use mathlib.Core.Logic.{inr}
use mathlib.Core.List.{List}
use Prim.Native.Nat.{ℕ, ◌+◌, ◌-◌, ◌≤◌}
use native.Mathlib.Omega.{arith}
use lib.ListN.{length, take, length-take}
use lib.Seq.{length-sets}
use Rattle.automaton.specs.declared.Header.{Header}
use Rattle.refusal.specs.declared.Refusal.{Refusal}
use Rattle.refusal.specs.Refusals.{number_of}
use Rattle.verifier.specs.declared.Estimator.{Estimator}
use Rattle.verifier.specs.Estimators as estimators
use Rattle.verifier.specs.Replies as verifier
use Rattle.verifier.specs.Replies.{Findings, findings, Accepting}
use Rattle.opacity.proofs.Numbering.{look_back_small}
use Rattle.enforcer.specs.declared.Release.{Release}
use Rattle.enforcer.specs.declared.Enforcer.{Enforcer}
use Rattle.enforcer.specs.Enforcers as enforcers
use Rattle.enforcer.specs.Offerings as enforcer
use Rattle.enforcer.specs.Offerings.{Offering}
use Rattle.report.specs.Text.{accepted_line, refused_line}
use Rattle.report.specs.Writing.{Written, no_room, written}
use Rattle.monitor.specs.Stepping.{Within, Countable, offered_once, accepted_once, not_verified, not_enforced, accepted, place_of, Printed, Stepped}
use Rattle.monitor.specs.Advancing.{Ready}
use Rattle.monitor.specs.declared.Monitor.{Monitor}
use Rattle.verifier.specs.declared.Judgement.{Judgement}
use Rattle.opacity.specs.declared.Verdicts.{Verdicts}

-- a line for which there is room
pub printed : {room at : ℕ} {before text after : List ℕ} {line : Option ℕ} → at + room ≤ length before → Written room before at text line after
    → Printed before at text (place_of line at) after
printed h (no_room full) = absurd (full h)
printed {room} {at} {before} {text} h (written free fit) = record { bytes = refl; place = refl; inside = inr (omega arith); size = length-sets before at text }

-- a refused byte leaves all but the count of offered ones
refused_within : (t : List ℕ) (h : Header) (m : Monitor) → Within t h m → Within t h (offered_once m)
refused_within t h m w = record {
  well_formed = w.well_formed;
  estimator = w.estimator;
  enforcer = w.enforcer;
  balanced = record { among = omega (arith, w.balanced.among); balance = w.balanced.balance };
}

pub by_verifier : (t : List ℕ) (h : Header) (m : Monitor) (byte : ℕ) (r : Refusal) (s : Estimator) (after : Monitor) {out out' : List ℕ} {at next : ℕ}
    → Within t h m
    → Accepting t h m.estimator byte (verifier.refused (number_of r)) s → after ≡ offered_once m → Printed out at (refused_line byte r) next out'
    → Stepped t h m byte out at after next out'
by_verifier t h m byte r s after {out} {out'} {at} {next} b acc e p = subst (λ (x : Monitor). Stepped t h m byte out at x next out') (sym e)
    record { text = refused_line byte r; steps = not_verified r acc; printed = p; within = refused_within t h m b }

pub by_enforcer : (t : List ℕ) (h : Header) (m : Monitor) (byte : ℕ) (r : Refusal) (j : Findings) (s : Estimator) (e : Enforcer) (output left : List ℕ)
    (after : Monitor)
    {out out' : List ℕ} {at next : ℕ} → Within t h m → Accepting t h m.estimator byte (verifier.verdicts j) s
    → length output ≡ 17 → Offering t h m.enforcer byte output (enforcer.refused (number_of r)) e left → after ≡ offered_once m
    → Printed out at (refused_line byte r) next out'
    → Stepped t h m byte out at after next out'
by_enforcer t h m byte r j s e output left after {out} {out'} {at} {next} b acc wide off eq p =
    subst (λ (x : Monitor). Stepped t h m byte out at x next out') (sym eq)
    record { text = refused_line byte r; steps = not_enforced r acc wide off; printed = p; within = refused_within t h m b }

accepted_limits : (t : List ℕ) (h : Header) (self : Estimator) (byte : ℕ) (j : Findings) (s : Estimator) → Accepting t h self byte (verifier.verdicts j) s
    → estimators.InLimits h s
accepted_limits t h self byte j s (Accepting.accepted so li ob same after many bounded size exact) = after

-- the counts of an offer
record Counted (h : Header) (m : Monitor) (f : ℕ) (e : Enforcer) : Type 0 where
  few : f ≤ 17
  kept : f + e.count ≡ m.enforcer.count + 1
  limits : enforcers.InLimits h e

counted : (t : List ℕ) (h : Header) (m : Monitor) (byte : ℕ) (r : Release) (e : Enforcer) (output left : List ℕ)
    → Offering t h m.enforcer byte output (enforcer.released r) e left → Counted h m r.count e
counted t h m byte r e output left (Offering.accepted so li wide ob same after bal front rest size exact) =
    record { few = omega (arith, li.few, look_back_small h m.enforcer.estimator.further so.back li.estimator.allowed); kept = bal; limits = after }

pub countable : (t : List ℕ) (h : Header) (m : Monitor) (byte : ℕ) (r : Release) (e : Enforcer) (output left : List ℕ) (out : List ℕ) (at : ℕ) → Within t h m
    → Ready m out at
    → Offering t h m.enforcer byte output (enforcer.released r) e left → Countable m r.count
countable t h m byte r e output left out at b ready off =
    let c = counted t h m byte r e output left off in
    record {
      few = c.few;
      accepted = omega (arith, b.balanced.among, ready.allowed);
      released = omega (arith, b.balanced.among, b.balanced.balance, ready.allowed, c.kept);
    }

pub by_both : (t : List ℕ) (h : Header) (m : Monitor) (byte : ℕ) (j : Judgement Verdicts) (s : Estimator) (r : Release) (e : Enforcer) (output left : List ℕ)
    (after : Monitor)
    {out out' : List ℕ} {at next : ℕ} → Within t h m
    → Accepting t h m.estimator byte (verifier.verdicts (findings m.estimator.further j)) s
    → length output ≡ 17 → Offering t h m.enforcer byte output (enforcer.released r) e left → after ≡ accepted_once m s e r.count
    → Printed out at (accepted_line (m.accepted + 1) byte j.verdicts.own.weak j.verdicts.own.strong j.size (take r.count left)) next out'
    → Stepped t h m byte out at after next out'
by_both t h m byte j s r e output left after {out} {out'} {at} {next} b acc wide off eq p =
    let c = counted t h m byte r e output left off in
    subst (λ (x : Monitor). Stepped t h m byte out at x next out') (sym eq)
    record {
      text = accepted_line (m.accepted + 1) byte j.verdicts.own.weak j.verdicts.own.strong j.size (take r.count left);
      steps = accepted j acc wide off;
      printed = p;
      within = record {
        well_formed = b.well_formed;
        estimator = accepted_limits t h m.estimator byte (findings m.estimator.further j) s acc;
        enforcer = c.limits;
        balanced = record { among = omega (arith, b.balanced.among); balance = omega (arith, b.balanced.balance, c.kept) };
      };
    }

-- the released events are a part of the output
pub part_size : (l : List ℕ) (n : ℕ) → n ≤ length l → length (take (n - 0) l) ≡ n
part_size l n h = simp (length-take) (omega arith)

pub part_is : (l : List ℕ) (n : ℕ) → take (n - 0) l ≡ take n l
part_is l n = let e : n - 0 ≡ n = omega arith in ap (λ (k : ℕ). take k l) e
