-- What an enforcer (01: Holder) holds.
use Rattle.std.specs.Prelude.{◌≡◌, List, ℕ, ◌+◌, ◌≤◌, ◌<◌, length, get_or, take}
use Rattle.automaton.specs.Run.{Automaton, automaton_of, Possible}
use Rattle.automaton.specs.declared.Header.{Header}
use Rattle.opacity.specs.declared.Notion.{Notion}
use Rattle.opacity.specs.declared.Secret.{Secret}
use Rattle.opacity.specs.Secrets.{secrets_of, largest, look_back_of}
use Rattle.verifier.specs.Estimators as estimator
use Rattle.enforcer.specs.SafePrefix.{SafeForAll}
use Rattle.enforcer.specs.Queues.{Queue}
use Rattle.enforcer.specs.declared.Enforcer.{Enforcer}

-- within its limits: its estimator is, and it holds at most K + 1 symbols, each up to 31. K is the largest (Secrets, look_back_of)
pub record Limits (K : ℕ) (s : Enforcer) : Type 0 where
  pub estimator : estimator.Limits K s.estimator
  pub few : s.count ≤ K + 1
  pub small : (i : ℕ) → i < s.count → get_or s.pending i 0 ≤ 31

-- the pending symbols (01: held events), the oldest first
abbrev pub pending_of : Enforcer → List ℕ
pending_of s = take s.count s.pending

-- an array of which the first `used` places are in use: the others are 0
pub record Padded (size used : ℕ) (array : List ℕ) : Type 0 where
  pub size_is : length array ≡ size
  pub zeros : (i : ℕ) → used ≤ i → get_or array i 0 ≡ 0

-- as it is after the accepted trace, started under the notion with these secrets, each with its own K. Of the estimator nothing is said but that it has
-- grown by the trace. Unused places of the queue's two arrays are 0, so that with the same further secrets there is one such enforcer only (Unique,
-- grown_unique)
pub record Grown (notion : Notion) (p : Automaton) (cs : List Secret) (trace : List ℕ) (s : Enforcer) : Type 0 where
  pub limits : Limits (largest cs) s
  pub possible : Possible p trace
  pub estimator : estimator.Grown p (largest cs) trace s.estimator
  pub under : s.notion ≡ notion
  pub queue : Queue (SafeForAll notion p cs) trace s.count s.pending s.waits
  pub pending_padded : Padded 16 s.count s.pending
  pub waits_padded : Padded 16 s.count s.waits

-- the secrets that are given, by an automaton's header and the further ones that the enforcer's estimator holds
abbrev pub secrets_in : Header → Enforcer → List Secret
secrets_in h s = secrets_of h s.estimator.further

abbrev pub InLimits : Header → Enforcer → Type 0
InLimits h s = Limits (look_back_of h s.estimator.further) s

abbrev pub GrownOn : Notion → List ℕ → Header → List ℕ → Enforcer → Type 0
GrownOn notion t h trace s = Grown notion (automaton_of t h) (secrets_in h s) trace s
