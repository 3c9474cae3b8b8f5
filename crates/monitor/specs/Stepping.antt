-- What one event byte of a log, and then several, make of a monitor, and the lines that they print.
use Rattle.std.specs.Prelude.{◌≡◌, List, [], ◌∷◌, ◌⊎◌, ℕ, ◌+◌, ◌≤◌, length, take, Option, unwrap_or}
use Rattle.std.proofs.lemmas.List.Edits.{sets}
use Rattle.lists.specs.Calls.{Chain, joined}
use Rattle.automaton.specs.Run.{WellFormed}
use Rattle.automaton.specs.declared.Header.{Header}
use Rattle.refusal.specs.declared.Refusal.{Refusal}
use Rattle.refusal.specs.Refusals.{number_of}
use Rattle.verifier.specs.declared.Estimator.{Estimator}
use Rattle.verifier.specs.Estimators as estimators
use Rattle.verifier.specs.Replies as verifier
use Rattle.verifier.specs.Replies.{Findings, findings, Accepting}
use Rattle.enforcer.specs.declared.Enforcer.{Enforcer}
use Rattle.enforcer.specs.declared.Release.{Release}
use Rattle.enforcer.specs.Enforcers as enforcers
use Rattle.enforcer.specs.Offerings as enforcer
use Rattle.enforcer.specs.Offerings.{Offering}
use Rattle.report.specs.Text.{accepted_line, refused_line}
use Rattle.monitor.specs.declared.Monitor.{Monitor}
use Rattle.verifier.specs.declared.Judgement.{Judgement}
use Rattle.opacity.specs.declared.Verdicts.{Verdicts}

-- the counts agree: an accepted event was offered, and it is released or pending (01: accepted = freed + held)
pub record Balanced (m : Monitor) : Type 0 where
  pub among : m.accepted ≤ m.offered
  pub balance : m.accepted ≡ m.released + m.enforcer.count

-- on this automaton within its limits: its estimator and its enforcer are, and the counts agree
pub record Within (t : List ℕ) (h : Header) (m : Monitor) : Type 0 where
  pub well_formed : WellFormed t h
  pub estimator : estimators.InLimits h m.estimator
  pub enforcer : enforcers.InLimits h m.enforcer
  pub balanced : Balanced m

-- one event more, and so many released ones, can be counted and printed
pub record Countable (m : Monitor) (f : ℕ) : Type 0 where
  pub few : f ≤ 17
  pub accepted : m.accepted + 1 ≤ 4294967295
  pub released : m.released + f ≤ 4294967295

-- one event byte more, which was refused
abbrev pub offered_once : Monitor → Monitor
offered_once m = record {
  opening = m.opening;
  estimator = m.estimator;
  enforcer = m.enforcer;
  offered = m.offered + 1;
  accepted = m.accepted;
  released = m.released;
}

-- one event more, which was accepted: the estimator and the enforcer after it, and how many events it released
abbrev pub accepted_once : Monitor → Estimator → Enforcer → ℕ → Monitor
accepted_once m s e f = record {
  opening = m.opening;
  estimator = s;
  enforcer = e;
  offered = m.offered + 1;
  accepted = m.accepted + 1;
  released = m.released + f;
}

-- an event byte: the line, and the monitor after it. The byte is offered to the verifier, and where that accepts it to the enforcer, with an output of 17
-- bytes. The verdicts of the automaton's own secret and the number of possible states in the line are the verifier's
pub data Stepping (t : List ℕ) (h : Header) (m : Monitor) (byte : ℕ) : List ℕ → Monitor → Type 0 where
  not_verified : (r : Refusal) {s : Estimator} → Accepting t h m.estimator byte (verifier.refused (number_of r)) s
      → Stepping t h m byte (refused_line byte r) (offered_once m)
  not_enforced : (r : Refusal) {j : Findings} {s : Estimator} {e : Enforcer} {output left : List ℕ} → Accepting t h m.estimator byte (verifier.verdicts j) s
      → length output ≡ 17 → Offering t h m.enforcer byte output (enforcer.refused (number_of r)) e left
      → Stepping t h m byte (refused_line byte r) (offered_once m)
  accepted : (j : Judgement Verdicts) {s : Estimator} {r : Release} {e : Enforcer} {output left : List ℕ}
      → Accepting t h m.estimator byte (verifier.verdicts (findings m.estimator.further j)) s
      → length output ≡ 17 → Offering t h m.enforcer byte output (enforcer.released r) e left
      → Stepping t h m byte (accepted_line (m.accepted + 1) byte j.verdicts.own.weak j.verdicts.own.strong j.size (take r.count left))
      (accepted_once m s e r.count)

-- one event byte of a list, and its line
pub record Event : Type 0 where
  pub byte : ℕ
  pub line : List ℕ

abbrev pub Followed : List ℕ → Header → Monitor → Event → Monitor → Type 0
Followed t h m v n = Stepping t h m v.byte v.line n

abbrev pub bytes_of : List Event → List ℕ
bytes_of vs = joined (λ v. v.byte ∷ []) vs

abbrev pub lines_of : List Event → List ℕ
lines_of vs = joined (λ v. v.line) vs

-- event bytes one after another: their lines, and the monitor after them
pub record Lines (t : List ℕ) (h : Header) (m : Monitor) (bytes text : List ℕ) (e : Monitor) : Type 0 where
  pub events : List Event
  pub steps : Chain (Followed t h) m events e
  pub bytes_are : bytes_of events ≡ bytes
  pub text_is : lines_of events ≡ text

-- a text inside an output: all of it stands there, from `at` on (or there is none), all other bytes stay, and the next one goes behind it
pub record Printed (out : List ℕ) (at : ℕ) (text : List ℕ) (next : ℕ) (out' : List ℕ) : Type 0 where
  pub bytes : out' ≡ sets out at text
  pub place : next ≡ at + length text
  pub inside : (text ≡ []) ⊎ (at + length text ≤ length out)
  pub size : length out' ≡ length out

abbrev pub place_of : Option ℕ → ℕ → ℕ
place_of line at = unwrap_or line at

-- one event byte, its line, and the monitor after it
pub record Stepped (t : List ℕ) (h : Header) (m : Monitor) (byte : ℕ) (out : List ℕ) (at : ℕ) (after : Monitor) (next : ℕ) (out' : List ℕ) : Type 0 where
  pub text : List ℕ
  pub steps : Stepping t h m byte text after
  pub printed : Printed out at text next out'
  pub within : Within t h after
