-- THE EXPLORATION BEFORE DELIVERY (02, S-7: survey): what its number and waits say of traces, of calls and of enforcers.
use Rattle.std.specs.Prelude.{◌≡◌, List, ◌↔◌, ℕ, ◌≤◌, ◌<◌}
use Rattle.automaton.specs.Run.{Automaton, automaton_of, Possible}
use Rattle.automaton.specs.declared.Header.{Header}
use Rattle.opacity.specs.declared.Notion.{Notion}
use Rattle.opacity.specs.declared.Secret.{Secret}
use Rattle.opacity.specs.declared.Further.{Further}
use Rattle.opacity.specs.Secrets.{cleared_of}
use Rattle.opacity.specs.Verdicts.{Steps, Tells}
use Rattle.verifier.specs.declared.Estimator.{Estimator}
use Rattle.verifier.specs.Estimators.{Grown, GrownOn}
use Rattle.verifier.specs.Replies.{Findings, verdicts, Opening}
use Rattle.verifier.specs.Calls.{Call, Calls, accepted_of, offered_of}
use Rattle.enforcer.specs.declared.Enforcer.{Enforcer}
use Rattle.enforcer.specs.Offerings.{started, Starting}
use Rattle.explore.specs.Configurations.{SameConfiguration, Number, MoreThan}
use Rattle.explore.specs.Explorations.{Said, explored, Exploring}
use Rattle.waiting.specs.AcceptedLists.{AcceptedFrom}
use Rattle.waiting.specs.LongestWaits.{wait_by, LongestWait}

-- a table, a header, further secrets and a limit have one answer
abbrev pub OneExploration : Type 0
OneExploration = (t : List ℕ) (h : Header) (f : Further) (limit : ℕ) (a b : Said) → Exploring t h f limit a → Exploring t h f limit b → a ≡ b

-- where there are n different configurations, there are more than m exactly where m is below n: so a limit of n is not spent, and each smaller one is
abbrev pub SpentExactly : Type 0
SpentExactly = (p : Automaton) (K n m : ℕ) → Number p K n → MoreThan p K m ↔ (m < n)

-- two traces lead to the same configuration exactly where they lead to the same estimator, with the same further secrets
abbrev pub ConfigurationsAre : Type 0
ConfigurationsAre = (p : Automaton) (K : ℕ) (a b : List ℕ) (s r : Estimator) → s.further ≡ r.further → Grown p K a s → Grown p K b r
    → SameConfiguration p K a b ↔ (s ≡ r)

-- and then they have the same verdicts, of every secret whose K is no larger
abbrev pub VerdictsByConfiguration : Type 0
VerdictsByConfiguration = (notion : Notion) (p : Automaton) → p.initial ≤ 63 → (secret : Secret) (K : ℕ) → secret.k ≤ K →
    (a b : List ℕ) → SameConfiguration p K a b
    → (v : Steps) → Tells notion p secret a v → Tells notion p secret b v

-- what calls of a fresh estimator accept are exactly the possible traces
abbrev pub AcceptedLists : Type 0
AcceptedLists = (t : List ℕ) (h : Header) (f : Further) (j : Findings) (s₀ : Estimator) → Opening t h f (verdicts j) s₀ → (trace : List ℕ)
    → Possible (automaton_of t h) trace ↔ AcceptedFrom t h s₀ trace

-- whoever offers a possible trace to it has all of it accepted
abbrev pub OfferedIsAccepted : Type 0
OfferedIsAccepted = (t : List ℕ) (h : Header) (f : Further) (j : Findings) (s₀ : Estimator) → Opening t h f (verdicts j) s₀ → (cs : List Call) (e : Estimator)
    → Calls t h s₀ cs e → Possible (automaton_of t h) (offered_of cs) → accepted_of cs ≡ offered_of cs

-- and the estimators that they lead to are exactly those that have grown by some trace, with these further secrets
abbrev pub ReachedByCalls : Type 0
ReachedByCalls = (t : List ℕ) (h : Header) (f : Further) (j : Findings) (s₀ : Estimator) → Opening t h f (verdicts j) s₀ → (s : Estimator)
    → ((s.further ≡ cleared_of f) × ((trace : List ℕ) × GrownOn t h trace s)) ↔ ((cs : List Call) × Calls t h s₀ cs s)

-- where an enforcer starts under a notion with the same secrets, the exploration's wait by that notion is its longest: no accepted symbol waits for more
-- further ones, and unless it is 0, the last of some accepted ones is still pending after any smaller number of further ones
abbrev pub ExplorationWaits : Type 0
ExplorationWaits = (t : List ℕ) (h : Header) (f g : Further) (limit number weak strong : ℕ) → Exploring t h f limit (explored number weak strong)
    → cleared_of f ≡ cleared_of g → (notion : Notion) (s : Enforcer) → Starting t h g notion started s → LongestWait t h s (wait_by notion weak strong)
