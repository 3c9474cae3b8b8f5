-- A loop that walks through the members e of a set and joins, for each, the word of the numbers that have `P e`. Assumes nothing.
use mathlib.Core.Path.{◌≡◌, subst}
use mathlib.Core.Logic.{◌⊎◌, inl, inr, ⊎_elim}
use mathlib.Core.List.{List}
use Prim.Native.Nat.{ℕ}
use native.Mathlib.Omega.{arith}
use lib.Bits.{bit_or}
use Rattle.stateset.specs.Set.{In, Is}
use Rattle.stateset.proofs.Bits.{Taken, bit_zero, empty}
use Rattle.relation.specs.Relation.{Row, Image, Sub}
use Rattle.relation.proofs.Words.{own_is, or_is}

pub record Joined (P : ℕ → ℕ → Type 0) (set todo r : ℕ) : Type 0 where
  pub sub : (e : ℕ) → In e todo → In e set
  pub sound : (q : ℕ) → In q r → (e : ℕ) × In e set × P e q
  pub whole : (e q : ℕ) → In e set → P e q → In e todo ⊎ In q r

module _ (P : ℕ → ℕ → Type 0) (set : ℕ) where
  pub join_start : Joined P set set 0
  join_start = record { sub = λ e i. i; sound = λ q i. absurd (omega (arith, bit_zero q)); whole = λ e q i j. inl i }

  pub join_more : (todo r e rest more : ℕ) → Taken todo e rest → Is more (λ q. In q r ⊎ P e q) → Joined P set todo r → Joined P set rest more
  join_more todo r e rest more k W g =
      record {
        sub = λ x i. g.sub x (k.kept x i);
        sound = λ q i. ⊎_elim (g.sound q) (λ j. (e, g.sub e k.inside, j)) (W.sound q i);
        whole = λ x q i j. ⊎_elim
            (λ t. ⊎_elim (λ same. inr (W.whole q (inr (subst (λ (y : ℕ). P y q) same j)))) (λ m. inl m) (k.left x t))
            (λ d. inr (W.whole q (inl d))) (g.whole x q i j);
      }

  pub join_turn : (todo r e rest w : ℕ) → Taken todo e rest → Is w (P e) → Joined P set todo r → Joined P set rest (bit_or r w)
  join_turn todo r e rest w k W g =
      join_more todo r e rest (bit_or r w) k (or_is r w (own_is r) W) g

  pub join_end : (todo r : ℕ) → todo ≡ 0 → Joined P set todo r → Is r (λ q. (e : ℕ) × In e set × P e q)
  join_end todo r z g =
      record {
        sound = g.sound;
        whole = λ q s. ⊎_elim (λ i. absurd (empty s.0 todo z i)) (λ d. d) (g.whole s.0 q s.1 s.2);
      }

-- what the state q adds to what comes back for a set
abbrev pub Adds : List ℕ → ℕ → ℕ → ℕ → Type 0
Adds rows set q x = In q set × Row rows q x

-- the states of the set are among those that were walked through
pub joined_whole : (rows : List ℕ) (set all r : ℕ) → Sub set all → Is r (λ x. (q : ℕ) × In q all × Adds rows set q x) → Is r (Image (Row rows) set)
joined_whole rows set all r sub g =
    record {
      sound = λ x i. let m = g.sound x i in (m.0, m.2.0, m.2.1);
      whole = λ x m. g.whole x (m.0, sub m.0 m.1, (m.1, m.2));
    }
