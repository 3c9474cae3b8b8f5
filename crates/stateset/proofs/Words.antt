-- The set of the numbers that have a property which can be tested. Assumes nothing.
use mathlib.Core.Path.{◌≡◌, refl, sym, subst}
use mathlib.Core.Logic.{◌⊎◌, inl, inr}
use Prim.Native.Nat.{ℕ, zero, suc, ◌*◌, ◌%◌, ◌^◌, ◌≤◌, ◌<◌}
use native.Mathlib.Omega.{arith}
use native.Mathlib.Decide.{dec_lt}
use lib.Bits.{bit_or, or_lt}
use Rattle.stateset.specs.Set.{In, Is}
use Rattle.stateset.proofs.Bits.{empty, with_is, one_shl}
use lib.Pow.{pow-lt}

-- the set of the numbers below 64 with a property that can be tested
pub record Word (P : ℕ → Type 0) : Type 0 where
  pub word : ℕ
  pub small : word < 2 ^ 64
  pub is : Is word P

below : (P : ℕ → Type 0) → ((q : ℕ) → Dec (P q)) → (n : ℕ) → n ≤ 64 → Word (λ q. (q < n) × P q)
below P test zero h = record {
  word = 0;
  small = omega arith;
  is = record
      { sound = λ q i. absurd (empty q 0 refl i); whole = λ q x. absurd (omega (arith, x.0)) };
}
below P test (suc n) h = go (test n) (below P test n (omega arith))
  where
    go : Dec (P n) → Word (λ q. (q < n) × P q) → Word (λ q. (q < suc n) × P q)
    go (no out) w = record {
      word = w.word;
      small = w.small;
      is = record {
        sound = λ q i. let x = w.is.sound q i in (omega (arith, x.0), x.1);
        whole = λ q x. w.is.whole q (other q x, x.1);
      };
    }
      where
        other : (q : ℕ) → (q < suc n) × P q → q < n
        other q x = elim (dec_lt q n) [ yes d ↦ d | no d ↦ absurd (out (subst P (let e : q ≡ n = omega (arith, x.0) in e) x.1)) ]
    go (yes good) w = record {
      word = bit_or w.word ((1 * 2 ^ n) % 2 ^ 64);
      small = or_lt 64 w.word ((1 * 2 ^ n) % 2 ^ 64) w.small (rw (one_shl n (omega arith)) (let l : n < 64 = omega arith in pow-lt l));
      is = record {
        sound = λ q i. from q ((with_is w.word n (omega arith)).sound q i);
        whole = λ q x. (with_is w.word n (omega arith)).whole q (to q x (dec_lt q n));
      };
    }
      where
        from : (q : ℕ) → In q w.word ⊎ (q ≡ n) → (q < suc n) × P q
        from q (inl i) = let x = w.is.sound q i in (omega (arith, x.0), x.1)
        from q (inr e) = (omega arith, subst P (sym e) good)

        to : (q : ℕ) → (q < suc n) × P q → Dec (q < n) → In q w.word ⊎ (q ≡ n)
        to q x (yes d) = inl (w.is.whole q (d, x.1))
        to q x (no d) = inr (omega (arith, x.0))

pub word_of : (P : ℕ → Type 0) → ((q : ℕ) → Dec (P q)) → ((q : ℕ) → P q → q < 64) → Word P
word_of P test few =
    let w = below P test 64 (omega arith) in
    record { word = w.word; small = w.small; is = record { sound = λ q i. (w.is.sound q i).1; whole = λ q x. w.is.whole q (few q x, x) } }
