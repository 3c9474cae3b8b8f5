-- Laws of transitions in a list: which are listed, which are the same, and the 17 bits of each as one number. Assumes nothing.
use Prim.Native.Nat.{ℕ, zero, suc, ◌+◌, ◌*◌, ◌≤◌, ◌<◌}
use mathlib.Core.Path.{◌≡◌, refl, sym, ap, ◌∙◌}
use mathlib.Core.Bool.{Bool, true, false, ◌&&◌, ◌||◌, or-false, or-true, or_assoc, false≢true}
use mathlib.Core.List.{List, [], ◌∷◌, ◌++◌}
use mathlib.Core.Logic.{◌⊎◌, inl, inr, ⊎_elim}
use native.Mathlib.Omega.{arith}
use native.Mathlib.Decide.{ℕ_discrete}
use native.Mathlib.Nat.{eq-or-lt_of_le, le_of_suc-le-suc}
use borrow.Author.Tests.{eq-eqb, ne_eqb, eqb-true}
use lib.Dec.{eqb}
use lib.ListN.{length}
use Rattle.bitfields.specs.Bits.{bits_of, number_at}
use Rattle.bitfields.proofs.Bits.{number_lt, number_join}
use Rattle.encoding.specs.Transitions.{same_transition, listed, transition_at, transitions_at}
use Rattle.encoding.specs.declared.ListedTransition.{ListedTransition}

pub unless_true : (b : Bool) → (b ≡ true → ⊥) → b ≡ false
unless_true true n = absurd (n refl)
unless_true false n = refl

pub or_split : (a b : Bool) → a || b ≡ true → (a ≡ true) ⊎ (b ≡ true)
or_split true b h = inl refl
or_split false b h = inr h

-- the same transition has the same numbers
pub same_equal : (t x : ListedTransition) → same_transition t x ≡ true → t ≡ x
same_equal t x h = go (eqb t.from x.from) (eqb t.event x.event) (eqb t.to x.to) refl refl refl h
  where
    go : (a b c : Bool) → eqb t.from x.from ≡ a → eqb t.event x.event ≡ b → eqb t.to x.to ≡ c → a && (b && c) ≡ true → t ≡ x
    go true true true f g k h =
        let f' = eqb-true t.from x.from f in
        let g' = eqb-true t.event x.event g in
        let k' = eqb-true t.to x.to k in
        λ i. record { from = f' i; event = g' i; to = k' i }
    go false b c f g k h = absurd (false≢true h)
    go true false c f g k h = absurd (false≢true h)
    go true true false f g k h = absurd (false≢true h)

same_self : (t : ListedTransition) → same_transition t t ≡ true
same_self t = rw (eq-eqb t.from t.from refl, eq-eqb t.event t.event refl, eq-eqb t.to t.to refl)

pub first_listed : (t : ListedTransition) (ts : List ListedTransition) → listed t (t ∷ ts) ≡ true
first_listed t ts = rw same_self

pub later_listed : (t x : ListedTransition) (ts : List ListedTransition) → listed t ts ≡ true → listed t (x ∷ ts) ≡ true
later_listed t x ts h = rw (h, or-true)

-- one transition more, at the end
pub listed_snoc : (t : ListedTransition) (xs : List ListedTransition) (x : ListedTransition) → listed t (xs ++ (x ∷ [])) ≡ listed t xs || same_transition t x
listed_snoc t [] x = or-false (same_transition t x)
listed_snoc t (y ∷ ys) x = ap (λ (b : Bool). same_transition t y || b) (listed_snoc t ys x)
    ∙ sym (or_assoc (same_transition t y) (listed t ys) (same_transition t x))

-- and so among those that stand in bits
pub listed_none : (t : ListedTransition) (bits : List ℕ) (at : ℕ) → listed t (transitions_at bits at 0) ≡ false
unfolding transitions_at
listed_none t bits at = refl

pub listed_more : (t : ListedTransition) (bits : List ℕ) (at n : ℕ)
    → listed t (transitions_at bits at (suc n)) ≡ listed t (transitions_at bits at n) || same_transition t (transition_at bits (at + n * 17))
unfolding transitions_at
listed_more t bits at n = listed_snoc t (transitions_at bits at n) (transition_at bits (at + n * 17))

-- what is listed stays so
pub listed_stays : (t : ListedTransition) (bits : List ℕ) (at i : ℕ) → same_transition t (transition_at bits (at + i * 17)) ≡ true
    → (n : ℕ) → i < n → listed t (transitions_at bits at n) ≡ true
listed_stays t bits at i s zero l = absurd (omega arith)
listed_stays t bits at i s (suc n) l =
    ⊎_elim (λ (q : i ≡ n). rw (← q, listed_more t bits at i, s, or-true)) (λ (q : i < n). rw (listed_more t bits at n, listed_stays t bits at i s n q))
    (eq-or-lt_of_le (le_of_suc-le-suc l))

-- a transition's three fields as one number
abbrev packed : ListedTransition → ℕ
packed t = t.from * 2048 + (t.event * 64 + t.to)

read_packed : (bs : List ℕ) (at : ℕ) → at + 17 ≤ length (bits_of bs) → number_at (bits_of bs) at 17 ≡ packed (transition_at (bits_of bs) at)
read_packed bs at h = rw (number_join (bits_of bs) at 6 11 (omega arith), number_join (bits_of bs) (at + 6) 5 6 (omega arith))

-- transitions are the same exactly where these numbers are
pub same_bits : (bs : List ℕ) (p q : ℕ) → p + 17 ≤ length (bits_of bs) → q + 17 ≤ length (bits_of bs)
    → eqb (number_at (bits_of bs) p 17) (number_at (bits_of bs) q 17) ≡ same_transition (transition_at (bits_of bs) q) (transition_at (bits_of bs) p)
same_bits bs p q hp hq = go (ℕ_discrete (number_at bits p 17) (number_at bits q 17))
  where
    bits : List ℕ
    bits = bits_of bs

    at_p : number_at bits p 17 ≡ packed (transition_at bits p)
    at_p = read_packed bs p hp

    at_q : number_at bits q 17 ≡ packed (transition_at bits q)
    at_q = read_packed bs q hq

    go : Dec (number_at bits p 17 ≡ number_at bits q 17) → eqb (number_at bits p 17) (number_at bits q 17)
        ≡ same_transition (transition_at bits q) (transition_at bits p)
    go (yes e) =
        let event-p = number_lt bs (p + 6) 5 (omega arith) in
        let to-p = number_lt bs (p + 6 + 5) 6 (omega arith) in
        let event-q = number_lt bs (q + 6) 5 (omega arith) in
        let to-q = number_lt bs (q + 6 + 5) 6 (omega arith) in
        let from : number_at bits q 6 ≡ number_at bits p 6 = omega (arith, at_p, at_q) in
        let event : number_at bits (q + 6) 5 ≡ number_at bits (p + 6) 5 = omega (arith, at_p, at_q) in
        let to : number_at bits (q + 6 + 5) 6 ≡ number_at bits (p + 6 + 5) 6 = omega (arith, at_p, at_q) in
        rw (eq-eqb _ _ e, eq-eqb _ _ from, eq-eqb _ _ event, eq-eqb _ _ to)
    go (no n) =
        let other : same_transition (transition_at bits q) (transition_at bits p) ≡ true → ⊥ =
        λ h. n (at_p ∙ ap packed (sym (same_equal (transition_at bits q) (transition_at bits p) h)) ∙ sym at_q) in
        rw (ne_eqb _ _ n, unless_true (same_transition (transition_at bits q) (transition_at bits p)) other)
