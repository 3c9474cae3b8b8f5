-- How many things have a property: one number; of numbers, with one more that has it; and the digits of a word that are set. Assumes nothing.
use mathlib.Core.Path.{◌≡◌, refl, sym, ap, ◌∙◌, subst}
use mathlib.Core.List.{List, [], ◌∷◌}
use mathlib.Core.Logic.{◌⊎◌, inl, inr, ⊎_elim, ◌↔◌}
use Prim.Native.Nat.{ℕ, zero, suc, ◌+◌, ◌-◌, ◌/◌, ◌%◌, ◌^◌, ◌≤◌, ◌<◌}
use native.Mathlib.Omega.{arith}
use native.Mathlib.Decide.{dec_lt, ℕ_discrete}
use lib.Count.{ones, ones_step}
use lib.ListN.{length, get_or}
use Rattle.stateset.specs.Set.{bit, In, CountsBy, MoreBy, Counts}
use Rattle.stateset.proofs.Bits.{bit_0, bit_suc, empty}
use Rattle.stateset.proofs.Pigeonhole.{no_more}

-- the same numbers have P and Q
pub counts_as : {P Q : ℕ → Type 0} {n : ℕ} → ((q : ℕ) → P q → Q q) → ((q : ℕ) → Q q → P q) → Counts P n → Counts Q n
counts_as f g c =
    record {
      members = c.members;
      number_is = c.number_is;
      sound = λ i h. f _ (c.sound i h);
      whole = λ q x. c.whole q (g q x);
      distinct = c.distinct;
    }

-- no number has P
pub counts_none : {P : ℕ → Type 0} → ((q : ℕ) → P q → ⊥) → Counts P 0
counts_none no_one =
    record {
      members = [];
      number_is = refl;
      sound = λ i h. absurd (omega arith);
      whole = λ q x. absurd (no_one q x);
      distinct = λ i j h l e. absurd (omega arith);
    }

-- x, which has not P, and all that have it
pub counts_more : {P : ℕ → Type 0} (n x : ℕ) → (P x → ⊥) → Counts P n → Counts (λ q. (q ≡ x) ⊎ P q) (1 + n)
counts_more {P} n x new c =
    record {
      members = x ∷ c.members;
      number_is = omega (arith, c.number_is);
      sound = sound;
      whole = λ q. ⊎_elim (λ e. (0, omega arith, sym e)) (λ p. let w = c.whole q p in (suc w.0, omega (arith, w.1), w.2));
      distinct = distinct;
    }
  where
    sound : (i : ℕ) → i < 1 + n → (get_or (x ∷ c.members) i 0 ≡ x) ⊎ P (get_or (x ∷ c.members) i 0)
    sound zero h = inl refl
    sound (suc i) h = inr (c.sound i (omega arith))

    distinct : (i j : ℕ) → i < j → j < 1 + n → get_or (x ∷ c.members) i 0 ≡ get_or (x ∷ c.members) j 0 → ⊥
    distinct i zero h l e = omega arith
    distinct zero (suc j) h l e = new (subst P (sym e) (c.sound j (omega arith)))
    distinct (suc i) (suc j) h l e = c.distinct i j (omega arith) (omega arith) e

-- things by any sameness that can be turned round and joined
module _ {A : Type 0} (blank : A) (Same : A → A → Type 0) (turned : (a b : A) → Same a b → Same b a)
    (joined : (a b c : A) → Same a b → Same b c → Same a c) where
  -- two places of a list of different ones that are the same are one place
  pub alone : (members : List A) (n : ℕ) → ((i j : ℕ) → i < j → j < n → Same (get_or members i blank) (get_or members j blank) → ⊥)
      → (i j : ℕ) → i < n → j < n → Same (get_or members i blank) (get_or members j blank) → i ≡ j
  alone members n distinct i j a b e = go (dec_lt i j) (dec_lt j i)
    where
      go : Dec (i < j) → Dec (j < i) → i ≡ j
      go (yes l) d = absurd (distinct i j l b e)
      go (no l) (yes r) = absurd (distinct j i r a (turned _ _ e))
      go (no l) (no r) = omega arith

  -- different ones that have P have a place each in the list of all
  most_of : (P : A → Type 0) (m n : ℕ) (members : List A) → ((i : ℕ) → i < m → P (get_or members i blank))
      → ((i j : ℕ) → i < j → j < m → Same (get_or members i blank) (get_or members j blank) → ⊥) → CountsBy blank Same P n → m ≤ n
  most_of P m n members sound distinct d =
      no_more m n (λ i k. Same (get_or d.members k blank) (get_or members i blank)) (λ i h. d.whole _ (sound i h))
      (λ i j k a b x y. alone members m distinct i j a b (joined _ _ _ (turned _ _ x) y))

  -- so there is one number, and there are more than m exactly where it is above m
  pub one_number_by : (P : A → Type 0) (m n : ℕ) → CountsBy blank Same P m → CountsBy blank Same P n → m ≡ n
  one_number_by P m n c d =
      omega (arith, most_of P m n c.members c.sound c.distinct d, most_of P n m d.members d.sound d.distinct c)

  pub more_exactly : (P : A → Type 0) (m n : ℕ) → CountsBy blank Same P n → MoreBy blank Same P m ↔ (m < n)
  more_exactly P m n d = (
    λ x. omega (arith, x.more, most_of P (length x.members) n x.members x.sound x.distinct d),
    λ less. record {
      members = d.members;
      more = omega (arith, d.number_is);
      sound = λ i h. d.sound i (omega (arith, d.number_is));
      distinct = λ i j l h. d.distinct i j l (omega (arith, d.number_is));
    },
  )

-- of numbers
pub counts_one : {P : ℕ → Type 0} (m n : ℕ) → Counts P m → Counts P n → m ≡ n
counts_one {P} m n c d = one_number_by 0 (λ a b. a ≡ b) (λ a b e. sym e) (λ a b c e f. e ∙ f) P m n c d

-- it is not 0 where some number has P
pub counts_some : {P : ℕ → Type 0} (n q : ℕ) → P q → Counts P n → 1 ≤ n
counts_some n q x c = omega (arith, (c.whole q x).1)

-- and at most k where those that have P are below k
pub counts_below : {P : ℕ → Type 0} (n k : ℕ) → ((q : ℕ) → P q → q < k) → Counts P n → n ≤ k
counts_below n k small c =
    no_more n k (λ i x. get_or c.members i 0 ≡ x) (λ i h. (get_or c.members i 0, small _ (c.sound i h), refl))
    (λ i j x a b e f. alone 0 (λ a b. a ≡ b) (λ a b e. sym e) (λ a b c e f. e ∙ f) c.members n c.distinct i j a b (e ∙ sym f))

-- the digit q of a word whose digits are counted from `off` on: the lowest, or a digit of its half
shifted : (off q w : ℕ) → suc off ≤ q → bit (q - off) w ≡ bit (q - suc off) (w / 2)
shifted off q w h =
    let e : q - off ≡ suc (q - suc off) = omega arith in
    ap (λ (x : ℕ). bit x w) e ∙ bit_suc (q - suc off) w

ones_zero : ones 0 ≡ 0
unfolding ones
ones_zero = refl

digits_from : (k off w : ℕ) → w < 2 ^ k → Counts (λ q. (off ≤ q) × In (q - off) w) (ones w)
digits_from zero off w h =
    let z : w ≡ 0 = omega arith in
    subst (Counts (λ q. (off ≤ q) × In (q - off) w)) (sym (ap ones z ∙ ones_zero)) (counts_none (λ q x. empty (q - off) w z x.1))
digits_from (suc k) off w h = go (w % 2) refl (digits_from k (suc off) (w / 2) (omega arith))
  where
    up : (q : ℕ) → (suc off ≤ q) × In (q - suc off) (w / 2) → (off ≤ q) × In (q - off) w
    up q x = (omega (arith, x.0), shifted off q w x.0 ∙ x.1)

    lowest : (q : ℕ) → q ≡ off → bit (q - off) w ≡ w % 2
    lowest q e =
        let z : q - off ≡ 0 = omega arith in
        ap (λ (x : ℕ). bit x w) z ∙ bit_0 w

    down : (q : ℕ) → (off ≤ q) × In (q - off) w → (q ≡ off → ⊥) → (suc off ≤ q) × In (q - suc off) (w / 2)
    down q x n =
        let l : suc off ≤ q = omega (arith, x.0, n) in
        (l, sym (shifted off q w l) ∙ x.1)

    go : (d : ℕ) → w % 2 ≡ d → Counts (λ q. (suc off ≤ q) × In (q - suc off) (w / 2)) (ones (w / 2)) → Counts (λ q. (off ≤ q) × In (q - off) w) (ones w)
    go zero e c =
        let same : ones (w / 2) ≡ ones w = omega (arith, ones_step w, e) in
        subst (Counts (λ q. (off ≤ q) × In (q - off) w)) same
        (counts_as up (λ q x. down q x (λ s. let l = lowest q s in absurd (omega (arith, l, x.1, e)))) c)
    go (suc zero) e c =
        let more : 1 + ones (w / 2) ≡ ones w = omega (arith, ones_step w, e) in
        subst (Counts (λ q. (off ≤ q) × In (q - off) w)) more
        (counts_as join part (counts_more (ones (w / 2)) off (λ x. absurd (omega (arith, x.0))) c))
      where
        join : (q : ℕ) → (q ≡ off) ⊎ ((suc off ≤ q) × In (q - suc off) (w / 2)) → (off ≤ q) × In (q - off) w
        join q (inl s) = (omega arith, lowest q s ∙ e)
        join q (inr x) = up q x

        part : (q : ℕ) → (off ≤ q) × In (q - off) w → (q ≡ off) ⊎ ((suc off ≤ q) × In (q - suc off) (w / 2))
        part q x = split (ℕ_discrete q off)
          where
            split : Dec (q ≡ off) → (q ≡ off) ⊎ ((suc off ≤ q) × In (q - suc off) (w / 2))
            split (yes s) = inl s
            split (no n) = inr (down q x n)
    go (suc (suc d)) e c = absurd (omega arith)

-- how many digits of a word are set
pub ones_counts : (k w : ℕ) → w < 2 ^ k → Counts (λ q. In q w) (ones w)
ones_counts k w h = counts_as (λ q x. sym (here q) ∙ x.1) (λ q x. (omega arith, here q ∙ x)) (digits_from k 0 w h)
  where
    here : (q : ℕ) → bit (q - 0) w ≡ bit q w
    here q =
        let e : q - 0 ≡ q = omega arith in
        ap (λ (x : ℕ). bit x w) e
