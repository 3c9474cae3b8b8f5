-- A relation between states as 64 words: word q is the set of what q is related to.
use Rattle.std.specs.Prelude.{◌≡◌, List, [], ◌∷◌, ◌⊎◌, ℕ, zero, suc, ◌+◌, ◌-◌, ◌*◌, ◌/◌, ◌%◌, ◌^◌, ◌<◌, ◌≤◌, get_or, length}
use Rattle.std.specs.Int.Bits.{bit_or}
use Rattle.std.proofs.Math.Nat.{zero-lt-suc, not-suc-le-zero, le_of_suc-le-suc}
use Rattle.stateset.specs.Set.{bit, In, Is}
use Rattle.relation.specs.declared.StateSets.{StateSets}

abbrev pub Row : List ℕ → ℕ → ℕ → Type 0
Row rows q r = In r (get_or rows q 0)

pub record Rows (rows : List ℕ) (R : ℕ → ℕ → Type 0) : Type 0 where
  pub size : length rows ≡ 64
  pub each : (q : ℕ) → q < 64 → Is (get_or rows q 0) (R q)

-- what the relation leads to from the states of a set, and from where it leads into them
abbrev pub Image : (ℕ → ℕ → Type 0) → ℕ → ℕ → Type 0
Image R set r = (q : ℕ) × In q set × R q r

abbrev pub Preimage : (ℕ → ℕ → Type 0) → ℕ → ℕ → Type 0
Preimage R set q = (q < 64) × ((r : ℕ) × In r set × R q r)

-- walks by the relation through states that all have P, both ends too
pub data Walk (R : ℕ → ℕ → Type 0) (P : ℕ → Type 0) : ℕ → ℕ → Type 0 where
  here : {q : ℕ} → P q → Walk R P q q
  there : {q m r : ℕ} → P q → R q m → Walk R P m r → Walk R P q r

-- r is reached from the set s by walks through members of the set allowed
abbrev pub Reached : (ℕ → ℕ → Type 0) → (allowed s r : ℕ) → Type 0
Reached R allowed s r = (q : ℕ) × In q s × Walk R (λ x. In x allowed) q r

-- every member of a set is one of the other
abbrev pub Sub : ℕ → ℕ → Type 0
Sub a b = (q : ℕ) → In q a → In q b

-- one of the four, by its number
abbrev pub set_at : StateSets → ℕ → ℕ
set_at s i = get_or (s.own ∷ s.first ∷ s.second ∷ s.third ∷ []) i 0

-- eight words are joined to those at their places, from first on, the other places are as they were, and `to` joins the eight
pub record Put (before : List ℕ) (first : ℕ) (eight after : List ℕ) (to : ℕ) : Type 0 where
  pub size : length after ≡ length before
  pub new : (i : ℕ) → i < 8 → get_or after (first + i) 0 ≡ bit_or (get_or before (first + i) 0) (get_or eight i 0)
  pub old : (k : ℕ) → (k < first) ⊎ (first + 8 ≤ k) → get_or after k 0 ≡ get_or before k 0
  pub joined : Is to (λ x. (i : ℕ) × (i < 8) × In x (get_or eight i 0))

-- the mask is the set of the numbers below 64 whose binary digit of weight j is 0 (j: a power of two)
pub record Masks (j mask : ℕ) : Type 0 where
  pub digit : (c : ℕ) → c < 64 → bit c mask ≡ 1 - c / j % 2

-- x, the digit of weight j of a bit's number, and d, the highest of its word's, have changed places; the word's digits have moved up by one, so that x stands
-- lowest
pub record Swapped (j : ℕ) (old new : List ℕ) : Type 0 where
  pub size : length new ≡ 64
  pub small : (i : ℕ) → i < 64 → get_or new i 0 < 2 ^ 64
  pub each : (i c d x : ℕ) → i < 32 → c / j % 2 ≡ 0 → j + c < 64 → d < 2 → x < 2
      → bit (d * j + c) (get_or new (2 * i + x) 0) ≡ bit (x * j + c) (get_or old (32 * d + i) 0)

-- of a set alone: what holds of its number, 0, holds of each number below 1, of which there is one
abbrev pub some_below : 0 < 1
some_below = zero-lt-suc 0

pub one : (P : ℕ → Type 0) → P 0 → (i : ℕ) → i < 1 → P i
one P p zero l = p
one P p (suc i) l = absurd (not-suc-le-zero (le_of_suc-le-suc l))
