-- The secrets that are given (02: recipes): the automaton's own, and up to three further ones, each a set of states with its own look-back K.
use Rattle.std.specs.Prelude.{List, [], ◌∷◌, ℕ, ◌≤◌, ◌<◌, max, length, get_or, take}
use Rattle.automaton.specs.declared.Header.{Header}
use Rattle.opacity.specs.declared.Secret.{Secret}
use Rattle.opacity.specs.declared.Further.{Further}

-- a set of states, and its own K
abbrev pub secret_of : (states k : ℕ) → Secret
secret_of states k = record { states = states; k = k }

-- the automaton's own, number 0
abbrev pub own : Header → Secret
own h = secret_of h.secret h.k

-- the three places for further ones
abbrev pub place_of : Further → ℕ → Secret
place_of f j = secret_of (get_or f.states j 0) (get_or f.k j 0)

abbrev pub places_of : Further → List Secret
places_of f = place_of f 0 ∷ place_of f 1 ∷ place_of f 2 ∷ []

-- those that are given: a place past the count counts for nothing
abbrev pub further_of : Further → List Secret
further_of f = take f.count (places_of f)

-- all of them, as they are numbered from 0: the automaton's own, and then as given
abbrev pub secrets_of : Header → Further → List Secret
secrets_of h f = own h ∷ further_of f

-- the secret with a number; past the last one: no state, K 0
abbrev pub empty_secret : Secret
empty_secret = secret_of 0 0

abbrev pub secret_at : List Secret → ℕ → Secret
secret_at cs i = get_or cs i empty_secret

-- of each secret that is given: its number, and it
abbrev pub ForEach : List Secret → (ℕ → Secret → Type 0) → Type 0
ForEach cs P = (i : ℕ) → i < length cs → P i (secret_at cs i)

-- the largest K
unfoldable pub largest : List Secret → ℕ
largest [] = 0
largest (c ∷ cs) = max c.k (largest cs)

-- the K of limits, of what is remembered and of waiting: the largest of all that are given
abbrev pub look_back_of : Header → Further → ℕ
look_back_of h f = largest (secrets_of h f)

-- as a state keeps them: the places past the count are emptied
abbrev pub cleared_of : Further → Further
cleared_of f =
    record {
      states = (secret_at (further_of f) 0).states ∷ (secret_at (further_of f) 1).states ∷ (secret_at (further_of f) 2).states ∷ [];
      k = (secret_at (further_of f) 0).k ∷ (secret_at (further_of f) 1).k ∷ (secret_at (further_of f) 2).k ∷ [];
      count = f.count;
    }

-- none further. (Not the same as one further with no state: that one has a number and verdicts)
abbrev pub no_further : Further
no_further = record { states = 0 ∷ 0 ∷ 0 ∷ []; k = 0 ∷ 0 ∷ 0 ∷ []; count = 0 }

-- at most three, and the K of each that is given at most 15
pub record Allowed (f : Further) : Type 0 where
  pub few : f.count ≤ 3
  pub back : ForEach (further_of f) (λ i c. c.k ≤ 15)

-- one that is given has a K above 15: its place
pub record TooLarge (f : Further) : Type 0 where
  pub at : ℕ
  pub given : at < length (further_of f)
  pub large : 15 < (secret_at (further_of f) at).k
