-- What rows hold of a relation. Assumes nothing.
use mathlib.Core.List.{List}
use Prim.Native.Nat.{ℕ, ◌<◌}
use native.Mathlib.Omega.{arith}
use native.Mathlib.Decide.{dec_lt}
use lib.ListN.{get_or, get_or-eq_default}
use Rattle.stateset.proofs.Bits.{empty}
use Rattle.relation.specs.Relation.{Row, Rows}

-- rows of a relation are rows of one that says the same
pub rows_same : (rows : List ℕ) (R S : ℕ → ℕ → Type 0) → ((q r : ℕ) → R q r → S q r) → ((q r : ℕ) → S q r → R q r) → Rows rows R → Rows rows S
rows_same rows R S f g h =
    record { size = h.size; each = λ q l. record { sound = λ r i. f q r ((h.each q l).sound r i); whole = λ r x. (h.each q l).whole r (g q r x) } }

-- what rows hold of a relation goes both ways
module _ (rows : List ℕ) (R : ℕ → ℕ → Type 0) (h : Rows rows R) where
  pub row_sound : (q r : ℕ) → Row rows q r → R q r
  row_sound q r i = go (dec_lt q 64)
    where
      go : Dec (q < 64) → R q r
      go (yes l) = (h.each q l).sound r i
      go (no n) = absurd (empty r (get_or rows q 0) (get_or-eq_default rows 0 (omega (arith, h.size))) i)

  pub row_whole : (q r : ℕ) → q < 64 → R q r → Row rows q r
  row_whole q r l x = (h.each q l).whole r x
