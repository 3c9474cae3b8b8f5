-- Prefixes that are safe for every secret that is given, each by its own K: one more instance of the laws. Each fact is that of the secret at an
-- arbitrary place. Assumes nothing.
use mathlib.Core.Path.{◌≡◌, refl, ap, sym, ◌∙◌, subst}
use mathlib.Core.List.{List, [], ◌∷◌, map}
use mathlib.Core.Logic.{◌⊎◌, inl, inr, ◌↔◌}
use Prim.Native.Nat.{ℕ, zero, suc, ◌≤◌, ◌<◌, ◌-◌, max}
use native.Mathlib.Omega.{arith}
use native.Mathlib.Decide.{dec_lt, dec_le}
use lib.ListN.{length, get_or, take}
use lib.Seq.{get_or-take}
use Rattle.automaton.specs.Run.{Automaton}
use Rattle.automaton.specs.declared.Header.{Header}
use Rattle.opacity.specs.declared.Notion.{Notion}
use Rattle.opacity.specs.declared.Notion.TheVariants.{Weak, Strong}
use Rattle.opacity.specs.declared.Secret.{Secret}
use Rattle.opacity.specs.declared.Further.{Further}
use Rattle.opacity.specs.Secrets.{own, secrets_of, secret_at, ForEach, largest, cleared_of}
use Rattle.opacity.specs.Verdicts.{Steps, none, Tells}
use Rattle.verifier.specs.Replies.{Told, chosen_each, steps_each, steps_by, none_told, told_at, told_each, numbered, told_of}
use Rattle.opacity.proofs.Numbering.{largest_bounds, same_secrets, how_many_most, get_d_map}
use Rattle.opacity.proofs.EveryVerdict.{every_verdict}
use Rattle.enforcer.specs.SafePrefix.{Safe, SafeForAll, SafeForAllByRuns, UnsafeForSome}
use Rattle.enforcer.specs.Queues.{Laws, Longest}
use Rattle.enforcer.specs.Waits.{wait_of, LargestWait}
use Rattle.enforcer.specs.Inner.{WaitAt}
use Rattle.enforcer.proofs.SafeLaws.{safe_laws, unsafe_not_safe, safe_wait, wait_safe, wait_unsafe, safe_by_runs}
use Rattle.verifier.specs.declared.EachSecret.{EachSecret}
use Rattle.opacity.specs.declared.Verdicts.{Verdicts}

-- a state that keeps what was given has the secrets that were given
pub kept_secrets : (h : Header) (f g : Further) → g ≡ cleared_of f → secrets_of h g ≡ secrets_of h f
kept_secrets h f g same = ap (secrets_of h) same ∙ same_secrets h f

-- with no further secret, what holds of the automaton's own holds of each
pub only : (h : Header) (f : Further) → f.count ≡ 0 → (P : ℕ → Secret → Type 0) → P 0 (own h) → ForEach (secrets_of h f) P
only h f alone P x zero given = x
only h f alone P x (suc i) given = absurd (omega (arith, given, how_many_most h f))

-- and the longest prefix that is safe for all is the longest that is safe
pub only_longest : (notion : Notion) (p : Automaton) (h : Header) (f : Further) (trace : List ℕ) (r : ℕ) → f.count ≡ 0
    → Longest (SafeForAll notion p (secrets_of h f)) trace r → Longest (Safe notion p (own h)) trace r
only_longest notion p h f trace r alone l = record {
  within = l.within;
  safe = l.safe.each 0 (omega arith);
  longest = λ s more within safe.
      l.longest s more within (record { each = only h f alone (λ i c. Safe notion p c (take s trace) (length trace)) safe });
}

pub safe_for_all_laws : (notion : Notion) (p : Automaton) (cs : List Secret) → Laws (largest cs) (SafeForAll notion p cs)
safe_for_all_laws notion p cs = record {
  shorter = λ first n k h safe. record { each = λ i g. (one i).shorter first n k h (safe.each i g) };
  grows = λ first n m h safe. record { each = λ i g. (one i).grows first n m h (safe.each i g) };
  old = λ first n h. record { each = λ i g. (one i).old first n (omega (arith, h, largest_bounds cs i g)) };
}
  where
    one : (i : ℕ) → Laws (secret_at cs i).k (Safe notion p (secret_at cs i))
    one i = safe_laws notion p (secret_at cs i)

-- of finitely many numbers, all are at most m, or one is above it
pub all_or_some : (w : ℕ → ℕ) (m n : ℕ) → ((i : ℕ) → i < n → w i ≤ m) ⊎ ((i : ℕ) × (i < n) × (m < w i))
all_or_some w m zero = inl (λ i h. absurd (omega arith))
all_or_some w m (suc n) = go (all_or_some w m n) (dec_le (w n) m)
  where
    go : ((i : ℕ) → i < n → w i ≤ m) ⊎ ((i : ℕ) × (i < n) × (m < w i)) → Dec (w n ≤ m) → ((i : ℕ) → i < suc n → w i ≤ m) ⊎ ((i : ℕ) × (i < suc n) × (m < w i))
    go (inr x) d = inr (x.0, omega (arith, x.1), x.2)
    go (inl all) (no d) = inr (n, omega arith, omega arith)
    go (inl all) (yes d) = inl (λ i h. last i h (dec_lt i n))
      where
        last : (i : ℕ) → i < suc n → Dec (i < n) → w i ≤ m
        last i h (yes l) = all i l
        last i h (no l) = let e : n ≡ i = omega arith in subst (λ (k : ℕ). w k ≤ m) e d

-- the wait at a place is within a bound where that of a secret that is given is
under : (cs : List Secret) (i m : ℕ) (u : Steps) (x : ℕ) → WaitAt cs i u x → (i < length cs → wait_of (secret_at cs i).k u ≤ m) → x ≤ m
under cs i m u x a low = go (dec_lt i (length cs))
  where
    go : Dec (i < length cs) → x ≤ m
    go (yes d) = omega (arith, a.given d, low d)
    go (no d) = omega (arith, a.other (omega arith))

-- a place that is not given asks for no wait
pub no_wait : (cs : List Secret) (i : ℕ) (u : Steps) → length cs ≤ i → WaitAt cs i u 0
no_wait cs i u past = record { given = λ g. absurd (omega (arith, g, past)); other = λ o. refl }

-- the largest of the waits of the four places
pub largest_of_four : (cs : List Secret) (vs : List Steps) (a b c d w : ℕ) → length cs ≤ 4 → WaitAt cs 0 (get_or vs 0 none) a → WaitAt cs 1 (get_or vs 1 none) b
    → WaitAt cs 2 (get_or vs 2 none) c → WaitAt cs 3 (get_or vs 3 none) d → w ≡ max (max a b) (max c d) → LargestWait cs vs w
largest_of_four cs vs a b c d w four A B C D e m = (to, from)
  where
    to : ForEach cs (λ i c. wait_of c.k (get_or vs i none) ≤ m) → w ≤ m
    to all = omega (arith, e, under cs 0 m _ a A (all 0), under cs 1 m _ b B (all 1), under cs 2 m _ c C (all 2), under cs 3 m _ d D (all 3))

    from : w ≤ m → ForEach cs (λ i c. wait_of c.k (get_or vs i none) ≤ m)
    from low zero g = omega (arith, e, A.given g)
    from low (suc zero) g = omega (arith, e, B.given g)
    from low (suc (suc zero)) g = omega (arith, e, C.given g)
    from low (suc (suc (suc zero))) g = omega (arith, e, D.given g)
    from low (suc (suc (suc (suc i)))) g = absurd (omega (arith, g, four))

-- one of the secrets has it
pub largest_reached : (cs : List Secret) (vs : List Steps) (w : ℕ) → 0 < length cs → LargestWait cs vs w
    → (i : ℕ) × (i < length cs) × (wait_of (secret_at cs i).k (get_or vs i none) ≡ w)
largest_reached cs vs w some most = go (all_or_some (λ i. wait_of (secret_at cs i).k (get_or vs i none)) (w - 1) (length cs))
  where
    low : (i : ℕ) → i < length cs → wait_of (secret_at cs i).k (get_or vs i none) ≤ w
    low = (most w).1 (omega arith)

    go : ((i : ℕ) → i < length cs → wait_of (secret_at cs i).k (get_or vs i none) ≤ w - 1)
        ⊎ ((i : ℕ) × (i < length cs) × (w - 1 < wait_of (secret_at cs i).k (get_or vs i none)))
        → (i : ℕ) × (i < length cs) × (wait_of (secret_at cs i).k (get_or vs i none) ≡ w)
    go (inl all) = (0, some, omega (arith, all 0 some, (most (w - 1)).0 all))
    go (inr x) = (x.0, x.1, omega (arith, x.2, low x.0 x.1))

-- only the verdicts of the secrets that are given count
pub largest_given : (cs : List Secret) (vs : List Steps) (n w : ℕ) → length cs ≤ n → LargestWait cs vs w → LargestWait cs (take n vs) w
largest_given cs vs n w few most m = (
  λ all. (most m).0 (λ i g. subst (λ (u : Steps). wait_of (secret_at cs i).k u ≤ m) (here i g) (all i g)),
  λ low i g. subst (λ (u : Steps). wait_of (secret_at cs i).k u ≤ m) (sym (here i g)) ((most m).1 low i g),
)
  where
    here : (i : ℕ) → i < length cs → get_or (take n vs) i none ≡ get_or vs i none
    here i g = get_or-take n vs i none (omega arith)

-- the verdicts by the notion, of both that were said
take_map : {A B : Type 0} (g : A → B) (n : ℕ) (l : List A) → take n (map g l) ≡ map g (take n l)
take_map g zero l = refl
take_map g (suc n) [] = refl
take_map g (suc n) (x ∷ xs) = ap (λ (l : List _). g x ∷ l) (take_map g n xs)

chosen_at : (g : Told → Steps) (n : ℕ) (l : List Told) (i : ℕ) → g none_told ≡ none → get_or (take n (map g l)) i none ≡ g (get_or (take n l) i none_told)
chosen_at g n l i is = ap (λ (x : List Steps). get_or x i none) (take_map g n l) ∙ get_d_map g (take n l) i none_told none is

pub chosen_told : (notion : Notion) (f : Further) (v : EachSecret Verdicts) (i : ℕ) → told_at notion (told_each f v) i
    ≡ get_or (steps_each f (chosen_each notion v)) i none
chosen_told Weak f v i = sym (chosen_at (steps_by Weak) (suc f.count) (map told_of (numbered v)) i refl)
chosen_told Strong f v i = sym (chosen_at (steps_by Strong) (suc f.count) (map told_of (numbered v)) i refl)

-- where each secret has its verdict of a trace, it is safe for all once the largest of the waits is over, and not before
pub wait_for_all : (notion : Notion) (p : Automaton) (cs : List Secret) (first : List ℕ) (vs : List Steps)
    → ForEach cs (λ i c. Tells notion p c first (get_or vs i none)) → (w : ℕ) → LargestWait cs vs w
    → (n : ℕ) → length first ≤ n → SafeForAll notion p cs first n ↔ (w ≤ n - length first)
wait_for_all notion p cs first vs tells w most n h = (
  λ safe. (most (n - length first)).0 (λ i g. wait_safe notion p _ first (get_or vs i none) (tells i g) n h (safe.each i g)),
  λ low. record { each = λ i g. safe_wait notion p _ first (get_or vs i none) (tells i g) n h ((most (n - length first)).1 low i g) },
)

-- where somebody is sure of one of them, the prefix is not safe for all
pub some_not_all : (notion : Notion) (p : Automaton) (cs : List Secret) (first : List ℕ) (n : ℕ) → UnsafeForSome notion p cs first n
    → SafeForAll notion p cs first n → ⊥
some_not_all notion p cs first n u safe = unsafe_not_safe notion p _ first n u.unsafe (safe.each u.number u.given)

module _ (notion : Notion) (p : Automaton) (cs : List Secret) (first : List ℕ) where
  -- each secret has its verdict of every trace
  verdict_of : (i : ℕ) → (v : Steps) × Tells notion p (secret_at cs i) first v
  verdict_of i = every_verdict notion p (secret_at cs i) first

  -- so safe is shown by runs, and not safe is a secret of which somebody is sure
  pub all_by_runs : (n : ℕ) → length first ≤ n → SafeForAll notion p cs first n → SafeForAllByRuns notion p cs first n
  all_by_runs n h safe = record { each = λ i g. safe_by_runs notion p _ first (verdict_of i).0 (verdict_of i).1 n h (safe.each i g) }

  pub some_unsafe : (n : ℕ) → length first ≤ n → (SafeForAll notion p cs first n → ⊥) → UnsafeForSome notion p cs first n
  some_unsafe n h bad = go (all_or_some waits (n - length first) (length cs))
    where
      waits : ℕ → ℕ
      waits i = wait_of (secret_at cs i).k (verdict_of i).0

      go : ((i : ℕ) → i < length cs → waits i ≤ n - length first) ⊎ ((i : ℕ) × (i < length cs) × (n - length first < waits i))
          → UnsafeForSome notion p cs first n
      go (inl all) = absurd (bad (record { each = λ i g. safe_wait notion p _ first (verdict_of i).0 (verdict_of i).1 n h (all i g) }))
      go (inr x) = record { number = x.0; given = x.1; unsafe = wait_unsafe notion p _ first (verdict_of x.0).0 (verdict_of x.0).1 n h x.2 }

  -- somebody is sure of one of them exactly where the prefix is not safe for all
  pub unsafe_exactly : (n : ℕ) → length first ≤ n → UnsafeForSome notion p cs first n ↔ (SafeForAll notion p cs first n → ⊥)
  unsafe_exactly n h = (some_not_all notion p cs first n, some_unsafe n h)
