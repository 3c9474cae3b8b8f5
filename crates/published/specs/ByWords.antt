-- Source document 000's Definitions 1, 3 and 4 as they stand there: a state and an event have one target, and an execution sequence is a word, a list of
-- events.
-- One thing differs: the projection names each observable event by its symbol (02, S-2)
use Rattle.std.specs.Prelude.{◌≡◌, List, [], ◌∷◌, ◌++◌, ℕ, ◌+◌, ◌*◌, ◌^◌, ◌≤◌, ◌-◌, length, replicate, set}
use Rattle.stateset.specs.Set.{bit, In}
use Rattle.automaton.specs.Run.{Automaton, Transition, Step, show_if, shows}
use Rattle.automaton.specs.Symbols.{own_numbers}
use Rattle.opacity.specs.declared.Secret.{Secret}
use Rattle.opacity.specs.declared.Notion.{Notion}
use Rattle.opacity.specs.declared.Notion.TheVariants.{Weak, Strong}
use Rattle.published.specs.Source.{Prefix}

-- Definition 1, "the partial transition function": at most one target for each state and event
pub record OneTarget (p : Automaton) : Type 0 where
  pub one : (q event r r' : ℕ) → Transition p.table q event r → Transition p.table q event r' → r ≡ r'

-- the word of steps, their events
abbrev pub word_of : List Step → List ℕ
word_of [] = []
word_of (s ∷ ss) = s.event ∷ word_of ss

-- q →s→ r: the word leads from q to r
abbrev pub Leads : Automaton → ℕ → List ℕ → ℕ → Type 0
Leads p q [] r = q ≡ r
Leads p q (e ∷ s) r = (m : ℕ) × Transition p.table q e m × Leads p m s r

-- L(G), the words that lead somewhere from the initial state
abbrev pub WordLang : Automaton → List ℕ → Type 0
WordLang p s = (q : ℕ) × Leads p p.initial s q

-- L_S(G), the marked language: those that lead to a secret state
abbrev pub Marked : Automaton → ℕ → List ℕ → Type 0
Marked p secret s = (q : ℕ) × In q secret × Leads p p.initial s q

-- P(s), the projection: the word without its events that are not observable, and each of the others by its symbol
abbrev pub projected : Automaton → List ℕ → List ℕ
projected p [] = []
projected p (e ∷ s) = shows p e ++ projected p s

-- source 000's own. Without symbols the two are the same (proofs Projections, own_projection)
abbrev pub erased : (observable : ℕ) → List ℕ → List ℕ
erased observable [] = []
erased observable (e ∷ s) = show_if (bit e observable) e ++ erased observable s

-- Definition 3
pub record EquivalentWord (p : Automaton) (secret : ℕ) (t t' : List ℕ) : Type 0 where
  pub s : List ℕ
  pub s' : List ℕ
  pub inside : WordLang p s
  pub begins : Prefix ℕ s' s
  pub like : projected p s ≡ projected p t
  pub like' : projected p s' ≡ projected p t'
  pub free : Marked p secret s' → ⊥

abbrev pub WeaklyByWords : Automaton → Secret → Type 0
WeaklyByWords p secret =
    (t : List ℕ) → WordLang p t → (t' : List ℕ) → Prefix ℕ t' t → length (projected p t) - length (projected p t') ≤ secret.k → Marked p secret.states t'
    → EquivalentWord p secret.states t t'

-- Definition 4
pub record FreeWord (p : Automaton) (secret : Secret) (t : List ℕ) : Type 0 where
  pub s : List ℕ
  pub inside : WordLang p s
  pub like : projected p s ≡ projected p t
  pub free : (s' : List ℕ) → Prefix ℕ s' s → length (projected p s) - length (projected p s') ≤ secret.k → Marked p secret.states s' → ⊥

abbrev pub StronglyByWords : Automaton → Secret → Type 0
StronglyByWords p secret = (t : List ℕ) → WordLang p t → FreeWord p secret t

abbrev pub OpaqueByWords : Notion → Automaton → Secret → Type 0
OpaqueByWords Weak p secret = WeaklyByWords p secret
OpaqueByWords Strong p secret = StronglyByWords p secret

-- an automaton of listed transitions, each from, event and to. Of two with one state and event the first counts, so that it has one target
abbrev pub tabled : List (ℕ × ℕ × ℕ) → List ℕ
tabled [] = replicate 2048 0
tabled ((from, event, to) ∷ rest) = set (tabled rest) (64 * event + from) (2 ^ to)

abbrev pub listed_by : List (ℕ × ℕ × ℕ) → (initial observable : ℕ) → Automaton
listed_by l initial observable = record { table = tabled l; initial = initial; observable = observable; symbols = own_numbers }

-- 01's P
abbrev pub transitions_p : List (ℕ × ℕ × ℕ)
transitions_p = (0, 0, 2) ∷ (0, 1, 1) ∷ (1, 2, 0) ∷ (2, 1, 3) ∷ (3, 1, 3) ∷ []

abbrev pub example_p : Automaton
example_p = listed_by transitions_p 0 (2 ^ 1 + 2 ^ 2)

-- two targets: event 1 leads from 0 to 1 and to 2
abbrev pub two_targets : Automaton
two_targets = record { table = set (replicate 2048 0) 64 (2 ^ 1 + 2 ^ 2); initial = 0; observable = 2 ^ 1; symbols = own_numbers }
