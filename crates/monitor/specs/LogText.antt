-- What the event bytes of a log print, by the definitions of verdicts, possible states and safe prefixes alone.
use Rattle.std.specs.Prelude.{◌≡◌, List, [], ◌∷◌, ◌++◌, ℕ, ◌+◌, length, take, drop}
use Rattle.automaton.specs.Run.{automaton_of, Observable, Possible, Impossible}
use Rattle.automaton.specs.declared.Header.{Header}
use Rattle.refusal.specs.declared.Refusal.TheVariants.{NotObservable, Incompatible}
use Rattle.opacity.specs.declared.Notion.TheVariants.{Weak}
use Rattle.opacity.specs.declared.Verdicts.{Verdicts}
use Rattle.opacity.specs.Secrets.{own}
use Rattle.enforcer.specs.SafePrefix.{Safe}
use Rattle.enforcer.specs.Queues.{Longest}
use Rattle.report.specs.Text.{accepted_line, refused_line}
use Rattle.monitor.specs.Opening.{RightOwn}
use Rattle.monitor.specs.declared.Monitor.{Monitor}

-- the first r events of the trace are its longest safe prefix (01: safe under weak)
abbrev pub Released : List ℕ → Header → List ℕ → ℕ → Type 0
Released t h trace r = Longest (Safe Weak (automaton_of t h) (own h)) trace r

-- from the events accepted so far and how many of them are released: for each event byte its line, and in the end the events accepted and how many are released
pub data Prints (t : List ℕ) (h : Header) : (trace : List ℕ) (released : ℕ) (bytes text after : List ℕ) (released' : ℕ) → Type 0 where
  none : {trace : List ℕ} {r : ℕ} → Prints t h trace r [] [] trace r
  not_observable : {trace bytes text after : List ℕ} {r r' b : ℕ} → (Observable h b → ⊥) → Prints t h trace r bytes text after r'
      → Prints t h trace r (b ∷ bytes) (refused_line b NotObservable ++ text) after r'
  incompatible : {trace bytes text after : List ℕ} {r r' b : ℕ} → Observable h b → Impossible (automaton_of t h) (trace ++ b ∷ [])
      → Prints t h trace r bytes text after r'
      → Prints t h trace r (b ∷ bytes) (refused_line b Incompatible ++ text) after r'
  -- an accepted event: its place, itself, the verdicts, how many states are possible, and what is now in the longest safe prefix and was not before
  accepted : {trace bytes text after : List ℕ} {r r' b : ℕ} (v : Verdicts) (n f : ℕ) → Observable h b → Possible (automaton_of t h) (trace ++ b ∷ [])
      → RightOwn t h (trace ++ b ∷ []) v n → Released t h (trace ++ b ∷ []) (r + f)
      → Prints t h (trace ++ b ∷ []) (r + f) bytes text after r'
      → Prints t h trace r (b ∷ bytes) (accepted_line (length trace + 1) b v.weak v.strong n (take f (drop r (trace ++ b ∷ []))) ++ text) after r'

-- a log that has started: the lines of its event bytes and the numbers of its last line
pub record MonitorPromise (t : List ℕ) (h : Header) (bytes text : List ℕ) (e : Monitor) : Type 0 where
  pub trace : List ℕ
  pub prints : Prints t h [] 0 bytes text trace e.released
  pub accepted : e.accepted ≡ length trace
  pub pending : e.released + e.enforcer.count ≡ length trace
