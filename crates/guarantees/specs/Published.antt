-- By source document 000's own definitions (crate `published`): our verdicts are its verdicts, and our safe prefixes its safe outputs.
use Rattle.std.specs.Prelude.{◌≡◌, List, ◌↔◌, ℕ, ◌≤◌, ◌-◌, length, take}
use Rattle.automaton.specs.Run.{Automaton, automaton_of}
use Rattle.automaton.specs.declared.Header.{Header}
use Rattle.opacity.specs.declared.Notion.{Notion}
use Rattle.opacity.specs.declared.Notion.TheVariants.{Weak}
use Rattle.opacity.specs.declared.Secret.{Secret}
use Rattle.opacity.specs.declared.Further.{Further}
use Rattle.opacity.specs.Secrets.{own, secrets_of, ForEach}
use Rattle.opacity.specs.Verdicts.{Steps}
use Rattle.verifier.specs.declared.Estimator.{Estimator}
use Rattle.verifier.specs.Replies.{Findings, Said, verdicts, Opening}
use Rattle.verifier.specs.Calls.{Call, Calls}
use Rattle.enforcer.specs.declared.Enforcer.{Enforcer}
use Rattle.enforcer.specs.SafePrefix.{SafeForAll}
use Rattle.enforcer.specs.Offerings.{started, Starting}
use Rattle.enforcer.specs.Offers.{Offer, Offers, accepted_of, released_of}
use Rattle.published.specs.Source.{Prefix, Trace, AllSecret, NoneFree, WeaklyOpaque, StronglyOpaque, Opaque, OpaqueForAll, NoLeaks}
use Rattle.published.specs.Source.{SafeToOutputForAll, PublishedPromise, PublishedReleases, RightVerdict, SoundComplete, SaysAfter, Enforced}
use Rattle.published.specs.ByWords.{OneTarget, OpaqueByWords}
use Rattle.published.specs.Estimators.{EstimateAt, estimator_after, StillAt, Gamma, SaysGamma}

-- Corollary 1, of each of several secrets: it is opaque exactly when its leak set is empty
abbrev pub Corollary1 : Type 0
Corollary1 = (notion : Notion) (p : Automaton) (cs : List Secret) → OpaqueForAll notion p cs ↔ ForEach cs (λ i c. NoLeaks notion p c)

-- Propositions 1 and 2: opaque exactly when no observed trace has all its executions secret, none of them free
abbrev pub Proposition1 : Type 0
Proposition1 = (p : Automaton) (secret : Secret)
    → WeaklyOpaque p secret
    ↔ ((μ : List ℕ) → Trace p μ → (μ' : List ℕ) → Prefix ℕ μ' μ → length μ - length μ' ≤ secret.k → AllSecret p secret.states μ' μ → ⊥)

abbrev pub Proposition2 : Type 0
Proposition2 = (p : Automaton) (secret : Secret)
    → StronglyOpaque p secret ↔ ((μ : List ℕ) → Trace p μ → NoneFree p secret.states secret.k μ → ⊥)

-- Definitions 3 and 4 over words, as the paper has them, are ours where a state and an event have one target
abbrev pub ByWords : Type 0
ByWords = (notion : Notion) (p : Automaton) (secret : Secret) → OneTarget p → Opaque notion p secret ↔ OpaqueByWords notion p secret

-- Proposition 3: the estimator's m(i) is δ(q_init, ⟦μ'/μ⟧)
abbrev pub Proposition3 : Type 0
Proposition3 = (p : Automaton) (K : ℕ) (μ : List ℕ) (i q : ℕ) → i ≤ K → EstimateAt (estimator_after p K μ) i q ↔ StillAt p (take (length μ - i) μ) μ q

-- Proposition 4: the verdict Γ of the estimator is sound and complete
abbrev pub Proposition4 : Type 0
Proposition4 = (p : Automaton) (secret : Secret) (μ : List ℕ) → Trace p μ → (γ : Steps) → Gamma (estimator_after p secret.k μ) secret γ
    → RightVerdict Weak p secret μ γ

-- what our verifier says after an observed trace: Γ's verdict of each secret
abbrev pub VerifierGamma : Type 0
VerifierGamma = (t : List ℕ) (h : Header) (f : Further) (μ : List ℕ) → Trace (automaton_of t h) μ → (r : Said) → SaysAfter t h f μ r → SaysGamma t h f μ r

-- Definition 6: our verifier is sound and complete, for every secret, by both notions
abbrev pub Definition6 : Type 0
Definition6 = (t : List ℕ) (h : Header) (f : Further) → SoundComplete (automaton_of t h) (secrets_of h f) (SaysAfter t h f)

-- the mission's second point by the leak sets
abbrev pub SecondPointPublished : Type 0
SecondPointPublished = (t : List ℕ) (h : Header) (f : Further) (j : Findings) (s : Estimator) (cs : List Call) (e : Estimator) → Opening t h f (verdicts j) s
    → Calls t h s cs e → PublishedPromise t h f j cs

-- a prefix is safe in 01's words exactly when Definition 12 says that it is safe to output, for every secret
abbrev pub SafeExactly : Type 0
SafeExactly = (notion : Notion) (p : Automaton) (cs : List Secret) (μ μ' : List ℕ) → length μ' ≤ length μ → Trace p μ'
    → SafeForAll notion p cs μ' (length μ) ↔ SafeToOutputForAll notion p cs μ μ'

-- the mission's third point by Definition 12, and Definition 13, which has one secret
abbrev pub ThirdPointPublished : Type 0
ThirdPointPublished = (notion : Notion) (t : List ℕ) (h : Header) (f : Further) (s : Enforcer) (os : List Offer) (e : Enforcer)
    → Starting t h f notion started s → Offers t h s os e → PublishedReleases notion t h f os

abbrev pub Definition13 : Type 0
Definition13 = (notion : Notion) (t : List ℕ) (h : Header) (f : Further) (s : Enforcer) (os : List Offer) (e : Enforcer) → f.count ≡ 0
    → Starting t h f notion started s → Offers t h s os e → Enforced notion (automaton_of t h) (own h) (accepted_of os) (released_of os)
