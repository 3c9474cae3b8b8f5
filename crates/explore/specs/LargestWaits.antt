-- The largest wait that an automaton can cause, by a notion and over all secrets that are given.
use Rattle.std.specs.Prelude.{◌≡◌, List, ℕ, ◌≤◌, ◌<◌, length}
use Rattle.automaton.specs.Run.{Automaton, Possible}
use Rattle.opacity.specs.declared.Notion.{Notion}
use Rattle.opacity.specs.declared.Secret.{Secret}
use Rattle.opacity.specs.Secrets.{secret_at, ForEach}
use Rattle.opacity.specs.Verdicts.{Steps, Tells}
use Rattle.enforcer.specs.Waits.{wait_of}

-- the wait of a trace by one secret: the secret's own K + 1 less the steps of a leak, and 0 for none
pub record WaitIs (notion : Notion) (p : Automaton) (secret : Secret) (trace : List ℕ) (w : ℕ) : Type 0 where
  pub steps : Steps
  pub tells : Tells notion p secret trace steps
  pub wait_is : w ≡ wait_of secret.k steps

-- by no secret that is given the trace waits for more than w. (Each trace has a verdict of each secret, and so a wait: opacity/proofs/EveryVerdict)
abbrev pub NoneAbove : Notion → Automaton → List Secret → ℕ → List ℕ → Type 0
NoneAbove notion p cs w trace = ForEach cs (λ i c. (v : ℕ) → WaitIs notion p c trace v → v ≤ w)

-- by one of them it waits for w
pub record WaitsFor (notion : Notion) (p : Automaton) (cs : List Secret) (w : ℕ) (trace : List ℕ) : Type 0 where
  pub number : ℕ
  pub given : number < length cs
  pub wait : WaitIs notion p (secret_at cs number) trace w

-- some possible trace does
pub record Attained (notion : Notion) (p : Automaton) (cs : List Secret) (w : ℕ) : Type 0 where
  pub trace : List ℕ
  pub possible : Possible p trace
  pub waits : WaitsFor notion p cs w trace

-- the largest wait of all: no possible trace, the empty one too, has more by any secret, and one has it by one of them. (What leads to the same
-- configuration has the same verdicts: waiting/proofs/Alike)
pub record LargestOfAll (notion : Notion) (p : Automaton) (cs : List Secret) (w : ℕ) : Type 0 where
  pub most : (trace : List ℕ) → Possible p trace → NoneAbove notion p cs w trace
  pub attained : Attained notion p cs w
