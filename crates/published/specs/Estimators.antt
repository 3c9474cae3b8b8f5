-- Source document 000's Section 5: the K-delay trajectory estimator (Definition 7), and the verdicts that Proposition 4 takes from it. There an element of a
-- state of the estimator is a tuple of states and a tuple of Booleans. Here it is the states alone: "for K-step weak opacity, only information about traversed
-- state is considered in trajectory estimators" (footnote 7).
use Rattle.std.specs.Prelude.{◌≡◌, List, [], ◌∷◌, ℕ, suc, ◌+◌, ◌-◌, ◌≤◌, ◌<◌, length, get_or, take, replicate}
use Rattle.stateset.specs.Set.{In, Counts}
use Rattle.automaton.specs.declared.Header.{Header}
use Rattle.automaton.specs.Run.{Automaton, automaton_of, Step, Takes, end_of, shown, Compatible}
use Rattle.automaton.specs.Reaching.{Arrives}
use Rattle.opacity.specs.Secrets.{secrets_of, ForEach}
use Rattle.opacity.specs.Verdicts.{Steps, none, leak}
use Rattle.verifier.specs.Replies.{Findings, told_at, Said, verdicts}
use Rattle.opacity.specs.declared.Secret.{Secret}
use Rattle.opacity.specs.declared.Notion.TheVariants.{Weak}
use Rattle.opacity.specs.declared.Further.{Further}
use Rattle.published.specs.Source.{Prefix, Still}

-- "trajectory mapping": a set of trajectories, which are lists of states. The paper writes a trajectory oldest state first, (q_1, .., q_l). Here the newest
-- state is first, so that element i is the state i observations back
abbrev pub Mapping : Type 1
Mapping = List ℕ → Type 0

-- m(i), "the set of the (l − i)th" elements of the trajectories of m: some trajectory has q as its state i observations back. Past its end it has none
pub record EstimateAt (m : Mapping) (i q : ℕ) : Type 0 where
  pub trajectory : List ℕ
  pub belongs : m trajectory
  pub inside : i < length trajectory
  pub is : get_or trajectory i 0 ≡ q

-- m ◂ m₂, "the shift operator", on trajectories of l = K + 1 states: (q_2, .., q_{l+1}) where (q_1, .., q_l) ∈ m and (q_l, q_{l+1}) ∈ m₂
pub record Shifted (K : ℕ) (m : Mapping) (m₂ : ℕ → ℕ → Type 0) (t' : List ℕ) : Type 0 where
  pub trajectory : List ℕ
  pub newest : ℕ
  pub belongs : m trajectory
  pub pair : m₂ (get_or trajectory 0 0) newest
  pub is : t' ≡ newest ∷ take K trajectory

-- Obs(σ), "the observation mapping": the pairs (q₁, q₂) for which there is an s with P(s) = σ and q₁ →s→ q₂
pub record Obs (p : Automaton) (σ q₁ q₂ : ℕ) : Type 0 where
  pub s : List Step
  pub takes : Takes p q₁ s
  pub shown_is : shown p s ≡ σ ∷ []
  pub ends : end_of q₁ s ≡ q₂

-- Definition 7, "K-Delay Trajectory Estimator". m_init: the trajectories (q, .., q) of K + 1 states with q ∈ Δ(q_init, ⟦ε⟧)
pub record Initially (p : Automaton) (K : ℕ) (t : List ℕ) : Type 0 where
  pub state : ℕ
  pub reached : Arrives p [] state
  pub is : t ≡ replicate (K + 1) state

-- δ_D(m, μ), one symbol after another by δ_D(m, σ) = m ◂ Obs(σ)
abbrev pub mapping_after : Automaton → (K : ℕ) → Mapping → List ℕ → Mapping
mapping_after p K m [] = m
mapping_after p K m (σ ∷ μ) = mapping_after p K (Shifted K m (Obs p σ)) μ

-- δ_D(m_init, μ). The states of the estimator, M^D, are the mappings of this form
abbrev pub estimator_after : Automaton → (K : ℕ) → List ℕ → Mapping
estimator_after p K μ = mapping_after p K (Initially p K) μ

-- Lemmas 1 and 2 are about an execution sequence s = s' · s_1 ⋯ s_n of ⟦μ⟧ with P(s_j) = σ_j. Here it is given by its parts: part 0 is s', and part j is
-- s' · s_1 ⋯ s_j, which shows the first j symbols of μ. (Where n > K the paper writes only the last K of the s_j and has the others in s': that s' has such
-- parts too, since each execution sequence of ⟦μ⟧ has a prefix for each number of its symbols)
pub record Parts (p : Automaton) (μ : List ℕ) (part : ℕ → List Step) : Type 0 where
  pub compatible : (j : ℕ) → j ≤ length μ → Compatible p (take j μ) (part j)
  pub begins : (j : ℕ) → j < length μ → Prefix Step (part j) (part (suc j))

-- q_init →s'→ q_{K−n} →s_1→ ⋯ →s_n→ q_K: the state i observations back is the one in which part n − i ends. For i past n that is part 0 again, n − i being 0
abbrev pub Ends : Automaton → (K : ℕ) → List ℕ → (ℕ → List Step) → List ℕ → Type 0
Ends p K μ part t = (i : ℕ) → i ≤ K → get_or t i 0 ≡ end_of p.initial (part (length μ - i))

-- what Lemma 1 gives: for these parts a trajectory of m
pub record TrajectoryOf (p : Automaton) (K : ℕ) (m : Mapping) (μ : List ℕ) (part : ℕ → List Step) : Type 0 where
  pub trajectory : List ℕ
  pub belongs : m trajectory
  pub ends : Ends p K μ part trajectory

-- what Lemma 2 gives: for this trajectory the parts of an execution sequence
pub record PartsOf (p : Automaton) (K : ℕ) (μ t : List ℕ) : Type 0 where
  pub part : ℕ → List Step
  pub parts : Parts p μ part
  pub ends : Ends p K μ part t

-- the right side of Proposition 3, δ(q_init, ⟦μ'/μ⟧): an execution sequence of ⟦μ'/μ⟧ ends in q
pub record StillAt (p : Automaton) (μ' μ : List ℕ) (q : ℕ) : Type 0 where
  pub s' : List Step
  pub still : Still p μ' μ s'
  pub ends : end_of p.initial s' ≡ q

-- m(k) ∈ 2^S: every state of m(k) is secret
abbrev pub Within : Mapping → (k secret : ℕ) → Type 0
Within m k secret = (q : ℕ) → EstimateAt m k q → In q secret

-- Proposition 4, Γ(m): "noleak if ∀ k ∈ [0, K] : m(k) ∉ 2^S", and "leak_l where l = min {k ∈ [0, K] | m(k) ∈ 2^S} otherwise". As there, k goes up to K also
-- where μ is shorter
abbrev pub Gamma : Mapping → Secret → Steps → Type 0
Gamma m secret none = (k : ℕ) → k ≤ secret.k → Within m k secret.states → ⊥
Gamma m secret (leak l) = (l ≤ secret.k) × Within m l secret.states × ((k : ℕ) → k < l → Within m k secret.states → ⊥)

-- our verifier's answer after the trace: a verdict of each secret by the weak notion, and it is Γ's of the estimator with that secret's K; and how many
-- states are possible, which is how many m(0) has, whatever K is
pub record SaysGamma (t : List ℕ) (h : Header) (f : Further) (μ : List ℕ) (r : Said) : Type 0 where
  pub told : Findings
  pub said_is : r ≡ verdicts told
  pub as_many : length told.each ≡ length (secrets_of h f)
  pub gamma : ForEach (secrets_of h f) (λ i c. Gamma (estimator_after (automaton_of t h) c.k μ) c (told_at Weak told.each i))
  pub current : (K : ℕ) → Counts (EstimateAt (estimator_after (automaton_of t h) K μ) 0) told.size
