-- How a log starts: two bytes, high first, the length of the encoding (01: description); the encoding; then one byte an event.
use Rattle.std.specs.Prelude.{◌≡◌, List, [], ℕ, ◌+◌, ◌-◌, ◌*◌, ◌≤◌, ◌<◌, length, get_or, take, drop, Err, Ok, Result}
use Rattle.automaton.specs.Run.{automaton_of}
use Rattle.refusal.specs.Refusals.{number_of}
use Rattle.automaton.specs.declared.Header.{Header}
use Rattle.opacity.specs.declared.Notion.TheVariants.{Weak, Strong}
use Rattle.opacity.specs.declared.Verdicts.{Verdicts}
use Rattle.opacity.specs.Secrets.{own, no_further}
use Rattle.opacity.specs.Verdicts.{steps_of, Exactly}
use Rattle.verifier.specs.Replies as verifier
use Rattle.verifier.specs.Replies.{no_leaks, OthersNoLeak}
use Rattle.automaton.specs.Reaching.{RightSize}
use Rattle.verifier.specs.Estimators as estimators
use Rattle.decoding.specs.Decoding.{Outcome, accept, refuse, Decoding}
use Rattle.enforcer.specs.declared.Enforcer.{Enforcer}
use Rattle.enforcer.specs.Enforcers as enforcers
use Rattle.enforcer.specs.Offerings.{Starting, not_started, Unusable}
use Rattle.monitor.specs.Stepping.{Balanced}
use Rattle.monitor.specs.declared.Monitor.{Monitor}
use Rattle.verifier.specs.declared.Judgement.{Judgement}
use Rattle.refusal.specs.declared.Refusal.{Refusal}
use Rattle.refusal.specs.declared.Refusal.TheVariants.{Truncated}
use Rattle.monitor.specs.declared.Described.{Described}

-- what an answer says: the number of a refusal, or where the events start
pub data OpenOutcome : Type 0 where
  refused : ℕ → OpenOutcome
  started : ℕ → OpenOutcome

abbrev pub open_outcome : Result ℕ Refusal → OpenOutcome
open_outcome (Err r) = refused (number_of r)
open_outcome (Ok n) = started n

-- how many bytes the length and the encoding take. (Where a byte of the length is missing this is more than there are)
abbrev pub front_size : List ℕ → ℕ
front_size log = 2 + (get_or log 0 0 * 256 + get_or log 1 0)

abbrev pub encoding_of : List ℕ → List ℕ
encoding_of log = take (front_size log - 2) (drop 2 log)

-- the verdicts of a trace for the automaton's own secret, the one secret of a log (02, S-6), and the number of possible states, are those of the definition
pub record RightOwn (t : List ℕ) (h : Header) (trace : List ℕ) (v : Verdicts) (n : ℕ) : Type 0 where
  pub weak : Exactly Weak (automaton_of t h) (own h) trace (steps_of v.weak)
  pub strong : Exactly Strong (automaton_of t h) (own h) trace (steps_of v.strong)
  pub size : RightSize (automaton_of t h) trace n

-- a fresh monitor: the verdicts of the empty trace, with no leak in the places of further secrets, and its number of possible states; a fresh estimator and
-- an enforcer that a weak start has handed back, both with no further secret; and no event so far
pub record Fresh (t : List ℕ) (h : Header) (m : Monitor) : Type 0 where
  pub opening : RightOwn t h [] m.opening.verdicts.own m.opening.size
  pub others : OthersNoLeak no_further m.opening.verdicts
  pub estimator : estimators.GrownOn t h [] m.estimator
  pub enforcer : enforcers.GrownOn Weak t h [] m.enforcer
  pub alone : m.estimator.further ≡ no_further
  pub enforcer_alone : m.enforcer.estimator.further ≡ no_further
  pub offered : m.offered ≡ 0
  pub accepted : m.accepted ≡ 0
  pub released : m.released ≡ 0

-- what decoding says of the log's encoding, with some table of 2,048 words
pub record Decodes (log : List ℕ) (h : Header) (answer : Outcome) (t : List ℕ) : Type 0 where
  pub before : List ℕ
  pub words : length before ≡ 2048
  pub decoding : Decoding (encoding_of log) before h answer t

-- the automaton of a log, by its first bytes, in the order of its refusals: 1, those of the encoding. What stands behind the encoding does not matter
pub data Describing (log : List ℕ) : Result Described Refusal → Type 0 where
  cut : length log < front_size log → Describing log (Err Truncated)
  no_automaton : {r : Refusal} {t : List ℕ} {h : Header} → front_size log ≤ length log → Decodes log h (refuse (number_of r)) t → Describing log (Err r)
  whole : {t : List ℕ} {h : Header} → front_size log ≤ length log → Decodes log h accept t
      → Describing log (Ok (record { table = t; header = h; size = front_size log }))

-- no leak and no state to tell
abbrev pub nothing_told : Judgement Verdicts
nothing_told = record { verdicts = record { own = no_leaks; first = no_leaks; second = no_leaks; third = no_leaks }; size = 0 }

-- what a refused log hands back: a header, an estimator and an enforcer that are outside their limits on every automaton, and a monitor that takes no byte
pub record NoMonitor (h : Header) (m : Monitor) : Type 0 where
  pub header : 15 < h.k
  pub estimator : verifier.Unusable m.estimator
  pub enforcer : Unusable m.enforcer
  pub counts : Balanced m → ⊥
  -- it has had all event bytes that a log may have, so that its end is not that of an idle log; and it has no leak and no state to tell
  pub spent : m.offered ≡ 4294967295
  pub opening : m.opening ≡ nothing_told

-- the start of a log, in the order of its refusals: 1, those of the encoding, 8. What stands behind the encoding does not matter
pub data Opening (log : List ℕ) : OpenOutcome → (table : List ℕ) → Header → Monitor → Type 0 where
  truncated : {t : List ℕ} {h : Header} {m : Monitor} → length log < front_size log → NoMonitor h m → Opening log (refused 1) t h m
  not_decoded : {n : ℕ} {t t' : List ℕ} {h h' : Header} {m : Monitor} → front_size log ≤ length log → Decodes log h' (refuse n) t' → NoMonitor h m
      → Opening log (refused n) t h m
  initial_leak : {t t' : List ℕ} {h h' : Header} {m : Monitor} {e : Enforcer} → front_size log ≤ length log → Decodes log h' accept t'
      → Starting t' h' no_further Weak (not_started 8) e → NoMonitor h m → Opening log (refused 8) t h m
  opened : {t : List ℕ} {h : Header} {m : Monitor} → front_size log ≤ length log → Decodes log h accept t → Fresh t h m
      → Opening log (started (front_size log)) t h m

-- a start on an automaton, inside `open`
pub data StartedOn (t : List ℕ) (h : Header) (events : ℕ) : OpenOutcome → List ℕ → Header → Monitor → Type 0 where
  leaks : {t' : List ℕ} {h' : Header} {m : Monitor} {e : Enforcer} → Starting t h no_further Weak (not_started 8) e → NoMonitor h' m
      → StartedOn t h events (refused 8) t' h' m
  begun : {m : Monitor} → Fresh t h m → StartedOn t h events (started events) t h m
