-- The loop that closes a set under a relation, wave by wave. Assumes nothing.
use mathlib.Core.Path.{◌≡◌, subst, sym}
use mathlib.Core.Logic.{◌⊎◌, inl, inr}
use Prim.Native.Nat.{ℕ, ◌<◌, ◌^◌}
use native.Mathlib.Omega.{arith}
use lib.Bits.{bit_and, and_le_l, and_le_r}
use Rattle.stateset.specs.Set.{In, Is, complement}
use Rattle.relation.specs.Relation.{Walk, here, there, Image, Reached, Sub}
use Rattle.stateset.proofs.Bits.{in?, intersection_is, without_is, subset_lt}

module _ {R : ℕ → ℕ → Type 0} {P : ℕ → Type 0} where
  pub walk_start : {p q : ℕ} → Walk R P p q → P p
  walk_start (here h) = h
  walk_start (there h r w) = h

  pub walk_end : {p q : ℕ} → Walk R P p q → P q
  walk_end (here h) = h
  walk_end (there h r w) = walk_end w

  pub walk_on : {p q x : ℕ} → Walk R P p q → R q x → P x → Walk R P p x
  walk_on (here h) r k = there h r (here k)
  walk_on (there h s w) r k = there h s (walk_on w r k)

  -- a set that holds what each of its members leads to holds the end of each walk that starts in it
  pub walk_in : (w : ℕ) → ((p q : ℕ) → In p w → R p q → P q → In q w) → {p q : ℕ} → Walk R P p q → In p w → In q w
  walk_in w f (here h) i = i
  walk_in w f (there {q = p} {m = m} h r k) i = walk_in w f k (f p m i r (walk_start k))

-- the allowed states that are not reached yet, and the last wave of the others: from all but the wave, what they lead to is reached too
pub record Closing (R : ℕ → ℕ → Type 0) (a s missing wave : ℕ) : Type 0 where
  pub fits : a < 2 ^ 64
  pub small : missing < 2 ^ 64
  pub inside : Sub missing a
  pub first : (p : ℕ) → In p s → In p missing → ⊥
  pub next : (p q : ℕ) → In p a → (In p missing → ⊥) → R p q → In q missing → In p wave
  pub reached : (q : ℕ) → In q a → (In q missing → ⊥) → Reached R a s q
  pub wave_in : (q : ℕ) → In q wave → In q a × (In q missing → ⊥)

module _ (R : ℕ → ℕ → Type 0) (a s : ℕ) where
  pub close_start : (wave missing : ℕ) → a < 2 ^ 64 → wave ≡ bit_and s a → missing ≡ bit_and a (complement wave) → Closing R a s missing wave
  close_start wave missing fits w m =
      record {
        fits = fits;
        small = omega (arith, m, and_le_l a (complement wave));
        inside = λ q i. (M.sound q i).0;
        first = λ p i j. let k = M.sound p j in k.1 (W.whole p (i, k.0));
        next = λ p q i n r j. back p i n (in? p wave);
        reached = λ q i n. let k = W.sound q (back q i n (in? q wave)) in (q, k.0, here k.1);
        wave_in = λ q i. ((W.sound q i).1, λ j. (M.sound q j).1 i);
      }
    where
      W : Is wave (λ q. In q s × In q a)
      W = subst (λ (x : ℕ). Is x (λ q. In q s × In q a)) (sym w) (intersection_is s a)

      M : Is missing (λ q. In q a × (In q wave → ⊥))
      M = subst (λ (x : ℕ). Is x (λ q. In q a × (In q wave → ⊥))) (sym m) (without_is a wave fits (omega (arith, w, and_le_r s a)))

      back : (q : ℕ) → In q a → (In q missing → ⊥) → Dec (In q wave) → In q wave
      back q i n (yes j) = j
      back q i n (no j) = absurd (n (M.whole q (i, j)))

  -- a turn: the new wave is what the last one leads to and is missing
  module _ (missing wave to new : ℕ) (n : new ≡ bit_and to missing) (I : Is to (Image R wave)) (c : Closing R a s missing wave) where
    N : Is new (λ q. In q to × In q missing)
    N = subst (λ (x : ℕ). Is x (λ q. In q to × In q missing)) (sym n) (intersection_is to missing)

    -- whatever else leads to a missing state: the new wave has it
    onward : (p q : ℕ) → In p a → (In p missing → ⊥) → R p q → In q missing → In q new
    onward p q i m r j = N.whole q (I.whole q (p, c.next p q i m r j, r), j)

    module _ (rest : ℕ) (e : rest ≡ bit_and missing (complement new)) where
      L : Is rest (λ q. In q missing × (In q new → ⊥))
      L = subst (λ (x : ℕ). Is x (λ q. In q missing × (In q new → ⊥))) (sym e)
          (without_is missing new c.small (omega (arith, n, and_le_r to missing, c.small)))

      pub close_turn : Closing R a s rest new
      close_turn =
          record {
            fits = c.fits;
            small = omega (arith, e, and_le_l missing (complement new), c.small);
            inside = λ q i. c.inside q (L.sound q i).0;
            first = λ p i j. c.first p i (L.sound p j).0;
            next = λ p q i m r j. next p q i r (L.sound q j).0 (L.sound q j).1 (was p m (in? p new));
            reached = λ q i m. reached q i (was q m (in? q new));
            wave_in = λ q i. (c.inside q (N.sound q i).1, λ j. (L.sound q j).1 i);
          }
        where
          was : (q : ℕ) → (In q rest → ⊥) → Dec (In q new) → (In q missing → ⊥) ⊎ In q new
          was q m (yes i) = inr i
          was q m (no i) = inl (λ j. m (L.whole q (j, i)))

          next : (p q : ℕ) → In p a → R p q → In q missing → (In q new → ⊥) → (In p missing → ⊥) ⊎ In p new → In p new
          next p q i r j k (inl m) = absurd (k (onward p q i m r j))
          next p q i r j k (inr m) = m

          reached : (q : ℕ) → In q a → (In q missing → ⊥) ⊎ In q new → Reached R a s q
          reached q i (inl m) = c.reached q i m
          reached q i (inr m) =
              let x = I.sound q (N.sound q m).0 in
              let k = c.wave_in x.0 x.1 in
              let w = c.reached x.0 k.0 k.1 in
              (w.0, w.1, walk_on w.2 x.2 i)

      -- less is missing where the wave has a member
      pub close_less : (x : ℕ) → In x new → rest < missing
      close_less x i = subset_lt 64 rest missing x close_turn.small c.small (λ p j. (L.sound p j).0) (N.sound x i).1 (λ j. (L.sound x j).1 i)

    -- a wave that leads to nothing new is the last
    pub close_end : (r : ℕ) → r ≡ bit_and a (complement missing) → ((q : ℕ) → In q new → ⊥) → Is r (Reached R a s)
    close_end r e none =
        record {
          sound = λ q i. c.reached q (A.sound q i).0 (A.sound q i).1;
          whole = λ q w. walk_in r (λ p x i l j. A.whole x (j, λ m. none x (onward p x (A.sound p i).0 (A.sound p i).1 l m))) w.2
              (A.whole w.0 (walk_start w.2, c.first w.0 w.1));
        }
      where
        A : Is r (λ q. In q a × (In q missing → ⊥))
        A = subst (λ (x : ℕ). Is x (λ q. In q a × (In q missing → ⊥))) (sym e) (without_is a missing c.fits c.small)

  -- nothing is missing
  pub close_full : (missing wave : ℕ) → ((q : ℕ) → In q missing → ⊥) → Closing R a s missing wave → Is a (Reached R a s)
  close_full missing wave none c = record { sound = λ q i. c.reached q i (none q); whole = λ q w. walk_end w.2 }
