-- What the functions inside the crate promise one another.
use Rattle.std.specs.Prelude.{◌≡◌, List, [], ◌∷◌, ◌++◌, ◌⊎◌, ℕ, ◌+◌, ◌-◌, ◌≤◌, ◌<◌, length, get_or, take, drop, Err, Ok, Result}
use Rattle.verifier.specs.declared.Estimator.{Estimator}
use Rattle.opacity.specs.declared.Secret.{Secret}
use Rattle.opacity.specs.Secrets.{secret_at}
use Rattle.opacity.specs.Verdicts.{Steps}
use Rattle.enforcer.specs.Waits.{wait_of}
use Rattle.enforcer.specs.Enforcers.{pending_of, Padded}
use Rattle.enforcer.specs.declared.Enforcer.{Enforcer}
use Rattle.refusal.specs.declared.Refusal.{Refusal}
use Rattle.enforcer.specs.declared.Release.{Release}

-- the limits of the pending symbols alone
pub record PendingWithin (K : ℕ) (s : Enforcer) : Type 0 where
  pub few : s.count ≤ K + 1
  pub small : (i : ℕ) → i < s.count → get_or s.pending i 0 ≤ 31

-- the wait of the secret with a number, by its own K: 0 where it is not given
pub record WaitAt (cs : List Secret) (i : ℕ) (v : Steps) (w : ℕ) : Type 0 where
  pub given : i < length cs → w ≡ wait_of (secret_at cs i).k v
  pub other : length cs ≤ i → w ≡ 0

-- how many of the symbols go, by the waits that are left. (An enforcer that is full, and whose first symbol still waits, did not grow from a fresh one)
pub record Ready (K count : ℕ) (soon : List ℕ) (f : ℕ) : Type 0 where
  pub some : f ≤ count + 1
  pub enough : count + 1 ≤ f + (K + 1)
  pub over : (count ≤ K) ⊎ (get_or soon 0 0 ≡ 0) → (i : ℕ) → i < f → get_or soon i 0 ≡ 0
  pub next : (count ≤ K) ⊎ (get_or soon 0 0 ≡ 0) → f < count + 1 → get_or soon f 0 ≡ 0 → ⊥

-- a queue after one more symbol with the wait w, of which the first f symbols go
pub record Shifted (K count : ℕ) (pending waits : List ℕ) (w byte f count' : ℕ) (pending' waits' : List ℕ) : Type 0 where
  pub balance : f + count' ≡ count + 1
  pub rest : take count' pending' ≡ drop f (take count pending ++ byte ∷ [])
  -- the waits, each one less, and the new one
  pub soon : List ℕ
  pub soon_old : (i : ℕ) → i < count → get_or soon i 0 ≡ get_or waits i 0 - 1
  pub soon_new : get_or soon count 0 ≡ w
  pub later : (i : ℕ) → i < count' → get_or waits' i 0 ≡ get_or soon (f + i) 0
  pub ready : Ready K count soon f

-- the enforcer after it
pub record Enqueued (K : ℕ) (self : Enforcer) (estimator : Estimator) (w byte : ℕ) (output : List ℕ) (f : ℕ) (after : Enforcer) (left : List ℕ) : Type 0 where
  pub estimator_is : after.estimator ≡ estimator
  pub notion_is : after.notion ≡ self.notion
  pub shifted : Shifted K self.count self.pending self.waits w byte f after.count after.pending after.waits
  pub front : left ≡ take f (pending_of self ++ byte ∷ []) ++ drop f output
  pub pending_padded : Padded 16 after.count after.pending
  pub waits_padded : Padded 16 after.count after.waits
  pub small : byte ≤ 31 → ((i : ℕ) → i < self.count → get_or self.pending i 0 ≤ 31) → (i : ℕ) → i < after.count → get_or after.pending i 0 ≤ 31

-- and the answer: how many go, and the number of possible states as it was given
abbrev pub Enqueues : (K : ℕ) (self : Enforcer) (estimator : Estimator) (w size byte : ℕ) (output : List ℕ) → Result Release Refusal → Enforcer → List ℕ → Type 0
Enqueues K self estimator w size byte output (Err r) after left = ⊥
Enqueues K self estimator w size byte output (Ok r) after left = Enqueued K self estimator w byte output r.count after left × (r.size ≡ size)
