-- How a log starts, from what decoding, the verifier and the enforcer answered. Assumes nothing.
use mathlib.Core.Path.{◌≡◌, refl, subst}
use mathlib.Core.List.{List, []}
use Prim.Native.Nat.{ℕ, ◌-◌, ◌≤◌, ◌<◌}
use native.Mathlib.Omega.{arith}
use Rattle.automaton.specs.Run.{WellFormed}
use Rattle.automaton.specs.declared.Header.{Header}
use Rattle.opacity.specs.declared.Notion.TheVariants.{Weak, Strong}
use Rattle.verifier.specs.declared.Estimator.{Estimator}
use Rattle.opacity.specs.declared.Further.{Further}
use Rattle.opacity.specs.Secrets.{no_further}
use Rattle.verifier.specs.Replies as verifier
use Rattle.verifier.specs.Replies.{findings, OthersNoLeak}
use Rattle.verifier.specs.Calls.{Right}
use Rattle.verifier.proofs.SecondPoint.{right}
use lib.ListN.{length, take, drop}
use Rattle.decoding.specs.Decoding.{Outcome, Decoding}
use Rattle.decoding.proofs.Listing.{decoded_well_formed}
use Rattle.refusal.specs.Refusals.{number_of}
use Rattle.refusal.specs.declared.Refusal.{Refusal}
use Rattle.std.specs.Prelude.{Ok, Err}
use Rattle.monitor.specs.declared.Described.{Described}
use Rattle.enforcer.specs.declared.Enforcer.{Enforcer}
use Rattle.enforcer.specs.Offerings as enforcer
use Rattle.enforcer.specs.Offerings.{Starting}
use Rattle.monitor.specs.Opening.{OpenOutcome, refused, started, front_size, RightOwn, Decodes, encoding_of, Describing, cut, no_automaton, whole, NoMonitor, Opening, opened, StartedOn, leaks, begun}
use Rattle.monitor.specs.declared.Monitor.{Monitor}
use Rattle.verifier.specs.declared.Judgement.{Judgement}
use Rattle.opacity.specs.declared.Verdicts.{Verdicts}

pub not_begun : (t : List ℕ) (h : Header) (events n : ℕ) (e : Enforcer) (t' : List ℕ) (h' : Header) (m : Monitor) → WellFormed t h
    → Starting t h no_further Weak (enforcer.not_started n) e → NoMonitor h' m → StartedOn t h events (refused n) t' h' m
not_begun t h events n e t' h' m so (Starting.malformed bad out) b = absurd (bad so)
not_begun t h events n e t' h' m so (Starting.too_many_secrets so' many out) b = absurd (omega arith)
not_begun t h events n e t' h' m so (Starting.look_back_too_large so' few large out) b = absurd (omega (arith, large.given))
not_begun t h events n e t' h' m so (Starting.initial_leak so' allowed opens out) b = leaks (Starting.initial_leak so' allowed opens out) b

-- of all verdicts that are right, those of the automaton's own secret
pub right_own : (t : List ℕ) (h : Header) (f : Further) (trace : List ℕ) (j : Judgement Verdicts) → Right t h f trace (findings f j)
    → RightOwn t h trace j.verdicts.own j.size
right_own t h f trace j x = record { weak = x.each Weak 0 (omega arith); strong = x.each Strong 0 (omega arith); size = x.size }

abbrev fresh_of : Judgement Verdicts → Estimator → Enforcer → Monitor
fresh_of j s e = record { opening = j; estimator = s; enforcer = e; offered = 0; accepted = 0; released = 0 }

pub is_begun : (t : List ℕ) (h : Header) (events : ℕ) (e : Enforcer) (j : Judgement Verdicts) (s : Estimator) → Starting t h no_further Weak enforcer.started e
    → verifier.Opening t h no_further (verifier.verdicts (findings no_further j)) s → OthersNoLeak no_further j.verdicts
    → StartedOn t h events (started events) t h (fresh_of j s e)
is_begun t h events e j s (Starting.ready so' allowed' tells same' grown) (verifier.Opening.opened so allowed same li many within x) others = begun record {
  opening = right_own t h no_further [] j (right t h no_further [] (findings no_further j) s many within x);
  others = others;
  estimator = x.grown;
  enforcer = grown;
  alone = same;
  enforcer_alone = same';
  offered = refl;
  accepted = refl;
  released = refl;
}

-- a fresh verifier refuses no automaton
pub verified : {t : List ℕ} {h : Header} {n : ℕ} {s : Estimator} → WellFormed t h → verifier.Opening t h no_further (verifier.refused n) s → ⊥
verified so (verifier.Opening.malformed bad out) = bad so
verified so (verifier.Opening.too_many_secrets so' many out) = omega arith
verified so (verifier.Opening.look_back_too_large so' few large out) = omega (arith, large.given)

-- a log without its encoding ends too early
pub short : (log : List ℕ) → (front_size log ≤ length log → ⊥) → length log < front_size log
short log none = omega (arith, none)

-- the part of the log that was decoded
pub decodes : (log : List ℕ) (size : ℕ) (before : List ℕ) (h : Header) (answer : Outcome) (t : List ℕ) → size ≡ front_size log → length before ≡ 2048
    → Decoding (take (size - 2) (drop 2 log)) before h answer t → Decodes log h answer t
decodes log size before h answer t e w d = record {
  before = before;
  words = w;
  decoding = subst (λ (k : ℕ). Decoding (take (k - 2) (drop 2 log)) before h answer t) e d;
}

-- what the front of a log tells of its start
pub described_well_formed : {log : List ℕ} {f : Described} → Describing log (Ok f) → WellFormed f.table f.header
described_well_formed {log} (whole {t = t} {h = h} l d) = decoded_well_formed (encoding_of log) d.before h t d.decoding

pub described_refused : {log t : List ℕ} {h : Header} {m : Monitor} {r : Refusal} → Describing log (Err r) → NoMonitor h m → Opening log (refused (number_of r)) t h m
described_refused (cut l) out = Opening.truncated l out
described_refused (no_automaton l d) out = Opening.not_decoded l d out

pub described_started : {log : List ℕ} {f : Described} {says : OpenOutcome} {t' : List ℕ} {h' : Header} {m : Monitor} → Describing log (Ok f)
    → StartedOn f.table f.header f.size says t' h' m → Opening log says t' h' m
described_started (whole l d) (leaks start out) = Opening.initial_leak l d start out
described_started (whole l d) (begun fresh) = opened l d fresh

-- the events of a log that has started, if there are any, are behind its front, which is whole
pub started_within : {log t : List ℕ} {h : Header} {m : Monitor} {n : ℕ} → Opening log (started n) t h m → (n ≡ front_size log) × (n ≤ length log)
started_within (opened within d fresh) = (refl, within)
