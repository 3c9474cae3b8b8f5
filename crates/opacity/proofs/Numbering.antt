-- Laws of the secrets that are given: their numbers, the largest K, and what a state keeps of them. Assumes nothing.
use mathlib.Core.Path.{◌≡◌, refl, ap, sym, ◌∙◌, subst}
use Rattle.std.specs.List.{fold}
use mathlib.Core.List.{List, [], ◌∷◌, map}
use mathlib.Core.Logic.{◌⊎◌, inl, inr}
use Prim.Native.Nat.{ℕ, zero, suc, ◌≤◌, ◌<◌, min, max}
use native.Mathlib.Omega.{arith}
use native.Mathlib.Decide.{dec_lt}
use lib.ListN.{length, get_or, take, length-take, get_or-eq_default}
use lib.Seq.{get_or-take, length-take-le, ext_get_or}
use Rattle.automaton.specs.declared.Header.{Header}
use Rattle.opacity.specs.declared.Secret.{Secret}
use Rattle.opacity.specs.declared.Further.{Further}
use Rattle.opacity.specs.Secrets.{own, place_of, places_of, further_of, secrets_of, empty_secret, secret_at, ForEach, largest, look_back_of, cleared_of, no_further}
use Rattle.opacity.specs.Secrets.{Allowed, TooLarge}

-- the largest K is that of an arbitrary secret at least, no more than a bound of all, and above a number where one of them is
pub largest_bounds : (cs : List Secret) → ForEach cs (λ i c. c.k ≤ largest cs)
unfolding largest
largest_bounds [] i h = absurd (omega arith)
largest_bounds (c ∷ cs) zero h = omega arith
largest_bounds (c ∷ cs) (suc i) h = omega (arith, largest_bounds cs i (omega arith))

pub largest_least : (cs : List Secret) (m : ℕ) → ForEach cs (λ i c. c.k ≤ m) → largest cs ≤ m
unfolding largest
largest_least [] m all = omega arith
largest_least (c ∷ cs) m all = omega (arith, all 0 (omega arith), largest_least cs m (λ i h. all (suc i) (omega arith)))

pub largest_found : (cs : List Secret) (m : ℕ) → m < largest cs → (i : ℕ) × (i < length cs) × (m < (secret_at cs i).k)
unfolding largest
largest_found [] m h = absurd (omega arith)
largest_found (c ∷ cs) m h = go (λ more. largest_found cs m more) (dec_lt m c.k)
  where
    go : (m < largest cs → (i : ℕ) × (i < length cs) × (m < (secret_at cs i).k)) → Dec (m < c.k) → (i : ℕ) × (i < length (c ∷ cs)) × (m < (secret_at (c ∷ cs) i).k)
    go rest (yes d) = (0, omega arith, d)
    go rest (no d) = let x = rest (omega arith) in (suc x.0, omega (arith, x.1), x.2)

head_bounds : (c : Secret) (cs : List Secret) → largest (c ∷ cs) ≡ max c.k (largest cs)
unfolding largest
head_bounds c cs = refl

-- within 15, together and one by one
pub look_back_small : (h : Header) (f : Further) → h.k ≤ 15 → Allowed f → look_back_of h f ≤ 15
look_back_small h f b a = omega (arith, head_bounds (own h) (further_of f), largest_least (further_of f) 15 a.back)

pub look_back_allowed : (h : Header) (f : Further) → f.count ≤ 3 → look_back_of h f ≤ 15 → Allowed f
look_back_allowed h f few low = record {
  few = few;
  back = λ i g. omega (arith, head_bounds (own h) (further_of f), largest_bounds (further_of f) i g);
}

pub look_back_large : (h : Header) (f : Further) → h.k ≤ 15 → 15 < look_back_of h f → TooLarge f
look_back_large h f b high =
    let x = largest_found (further_of f) 15 (omega (arith, head_bounds (own h) (further_of f))) in
    record { at = x.0; given = x.1; large = x.2 }

pub allowed_not_large : (f : Further) → Allowed f → TooLarge f → ⊥
allowed_not_large f a l = omega (arith, a.back l.at l.given, l.large)

-- each K is at most the largest
pub secret_back : (h : Header) (f : Further) → ForEach (secrets_of h f) (λ i c. c.k ≤ look_back_of h f)
secret_back h f i g = largest_bounds (secrets_of h f) i g

-- how many are given
pub how_many : (h : Header) (f : Further) → f.count ≤ 3 → length (secrets_of h f) ≡ suc f.count
how_many h f few = omega (arith, length-take-le f.count (places_of f) few)

pub how_many_most : (h : Header) (f : Further) → length (secrets_of h f) ≤ suc f.count
how_many_most h f = omega (arith, length-take f.count (places_of f))

-- none further: the automaton's own secret alone
pub alone : (h : Header) → length (secrets_of h no_further) ≡ 1
alone h = refl

-- the further secret at a place that is given is what stands there; past the count, or past the three places, there is none
pub placed : (f : Further) (j : ℕ) → j < f.count → j < 3 → secret_at (further_of f) j ≡ place_of f j
placed f j less few = get_or-take f.count (places_of f) j empty_secret less ∙ at j few
  where
    at : (j : ℕ) → j < 3 → get_or (places_of f) j empty_secret ≡ place_of f j
    at zero few = refl
    at (suc zero) few = refl
    at (suc (suc zero)) few = refl
    at (suc (suc (suc j))) few = absurd (omega arith)

pub not_placed : (f : Further) (j : ℕ) → (f.count ≤ j) ⊎ (3 ≤ j) → secret_at (further_of f) j ≡ empty_secret
not_placed f j more = get_or-eq_default (further_of f) empty_secret (long more)
  where
    long : (f.count ≤ j) ⊎ (3 ≤ j) → length (further_of f) ≤ j
    long (inl h) = omega (arith, length-take f.count (places_of f))
    long (inr h) = omega (arith, length-take f.count (places_of f))

-- what a state keeps are the same secrets
cleared_places : (n : ℕ) (a b c : Secret)
    → take n (get_or (take n (a ∷ b ∷ c ∷ [])) 0 empty_secret ∷ get_or (take n (a ∷ b ∷ c ∷ [])) 1 empty_secret ∷ get_or (take n (a ∷ b ∷ c ∷ [])) 2 empty_secret ∷ [])
    ≡ take n (a ∷ b ∷ c ∷ [])
cleared_places zero a b c = refl
cleared_places (suc zero) a b c = refl
cleared_places (suc (suc zero)) a b c = refl
cleared_places (suc (suc (suc zero))) a b c = refl
cleared_places (suc (suc (suc (suc n)))) a b c = refl

pub same_further : (f : Further) → further_of (cleared_of f) ≡ further_of f
same_further f = cleared_places f.count (place_of f 0) (place_of f 1) (place_of f 2)

pub same_secrets : (h : Header) (f : Further) → secrets_of h (cleared_of f) ≡ secrets_of h f
same_secrets h f = ap (λ (cs : List Secret). own h ∷ cs) (same_further f)

-- and what is kept of these is the same
pub cleared_twice : (f : Further) → cleared_of (cleared_of f) ≡ cleared_of f
cleared_twice f =
    ap (λ (cs : List Secret). record {
      states = (secret_at cs 0).states ∷ (secret_at cs 1).states ∷ (secret_at cs 2).states ∷ [];
      k = (secret_at cs 0).k ∷ (secret_at cs 1).k ∷ (secret_at cs 2).k ∷ [];
      count = f.count;
    }) (same_further f)

pub cleared_allowed : (f : Further) → Allowed f → Allowed (cleared_of f)
cleared_allowed f a = record { few = a.few; back = subst (λ (cs : List Secret). ForEach cs (λ i c. c.k ≤ 15)) (sym (same_further f)) a.back }

-- with no further secret nothing is kept
pub cleared_none : (f : Further) → f.count ≡ 0 → cleared_of f ≡ no_further
cleared_none f e = rw e refl

-- the largest K, place by place
pub back_none : (h : Header) (f : Further) → f.count ≡ 0 → h.k ≡ look_back_of h f
unfolding largest
back_none h f e = rw e (omega arith)

pub back_one : (h : Header) (f : Further) → f.count ≡ 1 → max h.k (get_or f.k 0 0) ≡ look_back_of h f
unfolding largest
back_one h f e = rw e (omega arith)

pub back_two : (h : Header) (f : Further) → f.count ≡ 2 → max (max h.k (get_or f.k 0 0)) (get_or f.k 1 0) ≡ look_back_of h f
unfolding largest
back_two h f e = rw e (omega arith)

max_assoc : (a b c : ℕ) → max (max a b) c ≡ max a (max b c)
max_assoc a b c = omega arith

last : (a b c d : ℕ) → max (max (max a b) c) d ≡ max a (max b (max c (max d 0)))
last a b c d =
    let e : d ≡ max d 0 = omega arith in
    max_assoc (max a b) c d ∙ max_assoc a b (max c d) ∙ ap (λ (x : ℕ). max a (max b (max c x))) e

three : (n : ℕ) (c : Secret) (a b d : Secret) → 3 ≤ n → max (max (max c.k a.k) b.k) d.k ≡ largest (c ∷ take n (a ∷ b ∷ d ∷ []))
unfolding largest
three zero c a b d h = absurd (omega arith)
three (suc zero) c a b d h = absurd (omega arith)
three (suc (suc zero)) c a b d h = absurd (omega arith)
three (suc (suc (suc zero))) c a b d h = last c.k a.k b.k d.k
three (suc (suc (suc (suc n)))) c a b d h = last c.k a.k b.k d.k

pub back_three : (h : Header) (f : Further) → 3 ≤ f.count → max (max (max h.k (get_or f.k 0 0)) (get_or f.k 1 0)) (get_or f.k 2 0) ≡ look_back_of h f
back_three h f few = three f.count (own h) (place_of f 0) (place_of f 1) (place_of f 2) few

-- and from the automaton's own on, one after another
back_from : (m : ℕ) (cs : List Secret) → fold (λ a k. max a k) m (map (λ (c : Secret). c.k) cs) ≡ max m (largest cs)
unfolding largest
back_from m [] = omega arith
back_from m (c ∷ cs) =
    let e : max (max m c.k) (largest cs) ≡ max m (max c.k (largest cs)) = omega arith in
    back_from (max m c.k) cs ∙ e

pub back_fold : (h : Header) (f : Further) → length f.k ≡ 3 → fold (λ a k. max a k) h.k (take (min f.count 3) f.k) ≡ look_back_of h f
unfolding largest
back_fold h f size =
    let places : f.k ≡ map (λ (c : Secret). c.k) (places_of f) = ext_get_or 0 f.k (map (λ (c : Secret). c.k) (places_of f)) (omega (arith, size)) (λ k less. at k (omega (arith, size))) in
    rw places (given f.count)
  where
    at : (k : ℕ) → k < 3 → get_or f.k k 0 ≡ get_or (map (λ (c : Secret). c.k) (places_of f)) k 0
    at zero few = refl
    at (suc zero) few = refl
    at (suc (suc zero)) few = refl
    at (suc (suc (suc k))) few = absurd (omega arith)

    given : (n : ℕ) → fold (λ a k. max a k) h.k (take (min n 3) (map (λ (c : Secret). c.k) (places_of f))) ≡ max h.k (largest (take n (places_of f)))
    given zero = back_from h.k (take zero (places_of f))
    given (suc zero) = back_from h.k (take 1 (places_of f))
    given (suc (suc zero)) = back_from h.k (take 2 (places_of f))
    given (suc (suc (suc zero))) = back_from h.k (places_of f)
    given (suc (suc (suc (suc n)))) =
        let e : min (suc (suc (suc (suc n)))) 3 ≡ 3 = omega arith in
        rw e (back_from h.k (places_of f))

-- the element with a number of a list that was mapped
pub get_d_map : {A B : Type 0} (f : A → B) (l : List A) (i : ℕ) (d : A) (e : B) → f d ≡ e → get_or (map f l) i e ≡ f (get_or l i d)
get_d_map f [] i d e is = sym is
get_d_map f (x ∷ xs) zero d e is = refl
get_d_map f (x ∷ xs) (suc i) d e is = get_d_map f xs i d e is
