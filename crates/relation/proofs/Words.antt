-- Words as sets: two that are joined, and one that is moved up. Assumes nothing.
use mathlib.Core.Path.{◌≡◌, sym, ap, ◌∙◌}
use mathlib.Core.Logic.{◌⊎◌, inl, inr, ⊎_elim}
use Prim.Native.Nat.{ℕ, ◌+◌, ◌-◌, ◌*◌, ◌%◌, ◌^◌, ◌≤◌, ◌<◌}
use native.Mathlib.Omega.{arith}
use native.Mathlib.Nat.{mod-lt}
use native.Mathlib.Decide.{dec_le}
use lib.Bits.{bit_or}
use lib.Pow.{pow_pos}
use Rattle.stateset.specs.Set.{bit, In, Is}
use Rattle.stateset.proofs.Bits.{in_lt, union_is}
use Rattle.relation.proofs.Shifting.{bit_shl, bit_shl_low, bit_mod}

-- a word is the set of its own members
pub own_is : (w : ℕ) → Is w (λ p. In p w)
own_is w = record { sound = λ p i. i; whole = λ p i. i }

pub or_is : {P Q : ℕ → Type 0} → (a b : ℕ) → Is a P → Is b Q → Is (bit_or a b) (λ p. P p ⊎ Q p)
or_is a b A B =
    record {
      sound = λ p i. ⊎_elim (λ j. inl (A.sound p j)) (λ j. inr (B.sound p j)) ((union_is a b).sound p i);
      whole = λ p m. (union_is a b).whole p (⊎_elim (λ j. inl (A.whole p j)) (λ j. inr (B.whole p j)) m);
    }

-- the members of r, k places higher, in a word of 64 bits
abbrev pub Moved : (k r p : ℕ) → Type 0
Moved k r p = (k ≤ p) × (p < 64) × In (p - k) r

module _ (k r : ℕ) where
  digit : (p : ℕ) → k ≤ p → bit p (r * 2 ^ k) ≡ bit (p - k) r
  digit p h =
      let place : p ≡ k + (p - k) = omega arith in
      ap (λ (x : ℕ). bit x (r * 2 ^ k)) place ∙ bit_shl k (p - k) r

  pub moved_is : Is ((r * 2 ^ k) % 2 ^ 64) (Moved k r)
  moved_is =
      record {
        sound = λ p i. go p (in_lt 64 p ((r * 2 ^ k) % 2 ^ 64) (mod-lt (r * 2 ^ k) (pow_pos 64)) i) i (dec_le k p);
        whole = λ p m. bit_mod 64 p (r * 2 ^ k) m.1 ∙ digit p m.0 ∙ m.2;
      }
    where
      go : (p : ℕ) → p < 64 → In p ((r * 2 ^ k) % 2 ^ 64) → Dec (k ≤ p) → Moved k r p
      go p l i (yes h) = (h, l, sym (digit p h) ∙ sym (bit_mod 64 p (r * 2 ^ k) l) ∙ i)
      go p l i (no h) = absurd (omega (arith, bit_mod 64 p (r * 2 ^ k) l, bit_shl_low k p r (omega arith)))
