-- Each symbol that can follow is answered: an outcome by the contract of `offer` exists. Assumes nothing.
use Rattle.std.specs.Prelude.{Ok}
use mathlib.Core.Path.{◌≡◌, refl, ap, ◌∙◌, subst, sym}
use mathlib.Core.List.{List, [], ◌∷◌, ◌++◌}
use mathlib.Core.Logic.{◌↔◌}
use Prim.Native.Nat.{ℕ, zero, suc, ◌+◌, ◌-◌, ◌≤◌, ◌<◌, max}
use native.Mathlib.Omega.{arith}
use native.Mathlib.Decide.{dec_lt, dec_le, ℕ_discrete}
use lib.ListN.{length, get_or, take, drop}
use Rattle.automaton.specs.Run.{automaton_of, Possible, WellFormed}
use Rattle.automaton.specs.declared.Header.{Header}
use Rattle.opacity.specs.declared.Notion.{Notion}
use Rattle.opacity.specs.Secrets.{secret_at, ForEach, look_back_of}
use Rattle.opacity.specs.Verdicts.{Steps, none}
use Rattle.opacity.proofs.Numbering.{look_back_small}
use Rattle.verifier.specs.declared.Estimator.{Estimator}
use Rattle.verifier.specs.Replies.{TellsBy}
use Rattle.enforcer.specs.declared.Enforcer.{Enforcer}
use Rattle.enforcer.specs.declared.Release.{Release}
use Rattle.enforcer.specs.Waits.{wait_of}
use Rattle.enforcer.specs.Enforcers.{Padded, secrets_in, GrownOn}
use Rattle.enforcer.specs.Inner.{Ready, Enqueued}
use Rattle.enforcer.specs.Offerings.{released, Offering}
use Rattle.enforcer.proofs.TakingIn.{took_in, ready_one}
use Rattle.enforcer.proofs.Outcomes.{taken_outcome}
use Rattle.waiting.proofs.Moving.{after, size, moved, verdict, told}
use Rattle.lists.proofs.Values.{list_of, get_d_list_of, padded, length_padded, get_d_padded, get_d_behind}

-- ---- the queue

abbrev choose : {A : Type 0} → Dec A → (a b : ℕ) → ℕ
choose (yes x) a b = a
choose (no x) a b = b

-- the first n values of a function, and one more
abbrev behind : (ℕ → ℕ) → ℕ → ℕ → ℕ → ℕ
behind f n x i = choose (dec_lt i n) (f i) x

behind_old : (f : ℕ → ℕ) (n x i : ℕ) → i < n → behind f n x i ≡ f i
behind_old f n x i h = go (dec_lt i n)
  where
    go : (d : Dec (i < n)) → choose d (f i) x ≡ f i
    go (yes l) = refl
    go (no l) = absurd (l h)

behind_new : (f : ℕ → ℕ) (n x : ℕ) → behind f n x n ≡ x
behind_new f n x = go (dec_lt n n)
  where
    go : (d : Dec (n < n)) → choose d (f n) x ≡ x
    go (yes l) = absurd (omega arith)
    go (no l) = refl

-- how many of the first n are 0, up to the first that is not
record Leading (xs : List ℕ) (n : ℕ) : Type 0 where
  f : ℕ
  few : f ≤ n
  over : (i : ℕ) → i < f → get_or xs i 0 ≡ 0
  next : f < n → get_or xs f 0 ≡ 0 → ⊥

leading : (xs : List ℕ) (n : ℕ) → Leading xs n
leading xs zero = record { f = 0; few = omega arith; over = λ i h. absurd (omega arith); next = λ h. absurd (omega arith) }
leading xs (suc n) = go (leading xs n)
  where
    go : Leading xs n → Leading xs (suc n)
    go x = pick (dec_lt x.f n) (ℕ_discrete (get_or xs n 0) 0)
      where
        same : (x.f < n → ⊥) → x.f ≡ n
        same d = omega (arith, x.few)

        pick : Dec (x.f < n) → Dec (get_or xs n 0 ≡ 0) → Leading xs (suc n)
        pick (yes d) z = record { f = x.f; few = omega arith; over = x.over; next = λ h. x.next d }
        pick (no d) (no z) = record { f = n; few = omega arith; over = λ i h. x.over i (omega (arith, same d)); next = λ h. z }
        pick (no d) (yes z) = record {
          f = suc n;
          few = omega arith;
          over = λ i h. elim (dec_lt i n) [
            | yes l ↦ x.over i (omega (arith, same d))
            | no l ↦ ap (λ (k : ℕ). get_or xs k 0) (let e : i ≡ n = omega arith in e) ∙ z
          ];
          next = λ h. absurd (omega arith);
        }

ready : (K count : ℕ) (soon : List ℕ) → count ≤ K + 1 → (f : ℕ) × Ready K count soon f
ready K count soon h = go (leading soon (count + 1))
  where
    go : Leading soon (count + 1) → (f : ℕ) × Ready K count soon f
    go x = pick (dec_le count K) (ℕ_discrete x.f 0)
      where
        pick : Dec (count ≤ K) → Dec (x.f ≡ 0) → (f : ℕ) × Ready K count soon f
        pick (yes d) z = (x.f, record { some = x.few; enough = omega arith; over = λ c. x.over; next = λ c. x.next })
        pick (no d) (no z) = (x.f, record { some = x.few; enough = omega arith; over = λ c. x.over; next = λ c. x.next })
        pick (no d) (yes z) = (1, ready_one K count soon (omega arith) h (λ e. x.next (omega arith) (ap (λ (k : ℕ). get_or soon k 0) z ∙ e)))

down : (xs : List ℕ) (f n : ℕ) → n ≤ 16 → Padded 16 n (padded (λ i. get_or xs (f + i) 0) n 16)
down xs f n h = record { size_is = length_padded (λ i. get_or xs (f + i) 0) n 16 h; zeros = get_d_behind (λ i. get_or xs (f + i) 0) n 16 }

-- an enforcer takes a symbol in
record Taken (K : ℕ) (self : Enforcer) (e : Estimator) (w b : ℕ) (output : List ℕ) : Type 0 where
  f : ℕ
  after : Enforcer
  left : List ℕ
  took : Enqueued K self e w b output f after left

module _ (K : ℕ) (self : Enforcer) (e : Estimator) (w b : ℕ) (output : List ℕ) (k : K ≤ 15) (few : self.count ≤ K + 1)
    (size : length self.pending ≡ 16) where
  abbrev symbol : ℕ → ℕ
  symbol = behind (λ i. get_or self.pending i 0) self.count b

  abbrev nearer : ℕ → ℕ
  nearer = behind (λ i. get_or self.waits i 0 - 1) self.count w

  symbols : List ℕ
  symbols = padded symbol (self.count + 1) 17

  soon : List ℕ
  soon = padded nearer (self.count + 1) 17

  symbols-at : (i : ℕ) → i < self.count + 1 → get_or symbols i 0 ≡ symbol i
  unfolding symbols
  symbols-at i h = get_d_padded symbol (self.count + 1) 17 i h

  soon_at : (i : ℕ) → i < self.count + 1 → get_or soon i 0 ≡ nearer i
  unfolding soon
  soon_at i h = get_d_padded nearer (self.count + 1) 17 i h

  symbols_size : length symbols ≡ 17
  unfolding symbols
  symbols_size = length_padded symbol (self.count + 1) 17 (omega arith)

  take_up : (f : ℕ) → Ready K self.count soon f → Taken K self e w b output
  take_up f r =
      let enough = r.enough in
      let pending : List ℕ = padded (λ i. get_or symbols (f + i) 0) (self.count + 1 - f) 16 in
      let waits : List ℕ = padded (λ i. get_or soon (f + i) 0) (self.count + 1 - f) 16 in
      record {
        f = f;
        after = record { estimator = e; notion = self.notion; count = self.count + 1 - f; pending = pending; waits = waits };
        left = take f symbols ++ drop f output;
        took = took_in K self e w b output f symbols soon pending waits (take f symbols ++ drop f output) size symbols_size
            (down symbols f (self.count + 1 - f) (omega arith)) (down soon f (self.count + 1 - f) (omega arith)) k few
            (λ i h. symbols-at i (omega arith) ∙ behind_old (λ i. get_or self.pending i 0) self.count b i h)
            (symbols-at self.count (omega arith) ∙ behind_new (λ i. get_or self.pending i 0) self.count b)
            (λ i h. soon_at i (omega arith) ∙ behind_old (λ i. get_or self.waits i 0 - 1) self.count w i h)
            (soon_at self.count (omega arith) ∙ behind_new (λ i. get_or self.waits i 0 - 1) self.count w)
            r refl (get_d_padded (λ i. get_or symbols (f + i) 0) (self.count + 1 - f) 16) (get_d_padded (λ i. get_or soon (f + i) 0) (self.count + 1 - f) 16);
      }

  taken : Taken K self e w b output
  taken = let x = ready K self.count soon few in take_up x.0 x.1

-- ---- the wait for all secrets

largest_of : (ℕ → ℕ) → ℕ → ℕ
largest_of w zero = 0
largest_of w (suc n) = max (largest_of w n) (w n)

largest_is : (w : ℕ → ℕ) (n m : ℕ) → ((i : ℕ) → i < n → w i ≤ m) ↔ (largest_of w n ≤ m)
unfolding largest_of
largest_is w zero m = (λ all. omega arith, λ low i h. absurd (omega arith))
largest_is w (suc n) m =
    let x = largest_is w n m in (
      λ all. omega (arith, all n (omega arith), x.0 (λ i h. all i (omega arith))),
      λ low i h. at x.1 i h low (dec_lt i n),
    )
  where
    at : (largest_of w n ≤ m → (i : ℕ) → i < n → w i ≤ m) → (i : ℕ) → i < suc n → max (largest_of w n) (w n) ≤ m → Dec (i < n) → w i ≤ m
    at before i h low (yes d) = before (omega arith) i d
    at before i h low (no d) = let e : n ≡ i = omega arith in subst (λ (k : ℕ). w k ≤ m) e (omega arith)

-- ---- the answer

pub record Answered (t : List ℕ) (h : Header) (s : Enforcer) (b : ℕ) (output : List ℕ) : Type 0 where
  pub r : Release
  pub after : Enforcer
  pub left : List ℕ
  pub offering : Offering t h s b output (released r) after left

pub answered : (notion : Notion) (t : List ℕ) (h : Header) → WellFormed t h → (trace : List ℕ) (s : Enforcer) (b : ℕ) (output : List ℕ) → 17 ≤ length output
    → GrownOn notion t h trace s → Possible (automaton_of t h) (trace ++ b ∷ []) → Answered t h s b output
answered notion t h well_formed trace s b output room g possible =
    let e = s.estimator in
    let v : ℕ → Steps = verdict t h well_formed trace e b g.estimator possible s.notion in
    let n = length (secrets_in h s) in
    let m = after t h well_formed trace e b g.estimator possible in
    let z = size t h well_formed trace e b g.estimator possible in
    let waits : ℕ → ℕ = λ i. wait_of (secret_at (secrets_in h s) i).k (get_or (list_of v n) i none) in
    let w = largest_of waits n in
    let x = taken (look_back_of h e.further) s m w b output (look_back_small h e.further well_formed.back g.estimator.allowed) g.limits.few
    g.pending_padded.size_is in
    let told-each : ForEach (secrets_in h s) (λ i c. TellsBy s.notion t h e b c (get_or (list_of v n) i none)) =
    λ i given. subst (TellsBy s.notion t h e b (secret_at (secrets_in h s) i)) (sym (get_d_list_of v n i none given))
    (told t h well_formed trace e b g.estimator possible s.notion i given) in
    let r : Release = record { count = x.f; size = z } in
    record {
      r = r;
      after = x.after;
      left = x.left;
      offering = taken_outcome t h s b output (list_of v n) w z m (Ok r) x.after x.left well_formed g.limits room
          (moved t h well_formed trace e b g.estimator possible) told-each (λ k. largest_is waits n k) (x.took, refl);
    }
