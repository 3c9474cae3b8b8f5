-- One trace and the same further secrets give one enforcer: its count, its pending events, its waits and its unused places leave no choice. Assumes nothing.
use mathlib.Core.Path.{◌≡◌, ap, sym, ◌∙◌, subst}
use mathlib.Core.List.{List}
use Prim.Native.Nat.{ℕ, ◌-◌, ◌<◌}
use native.Mathlib.Omega.{arith}
use native.Mathlib.Decide.{dec_lt}
use lib.ListN.{length, get_or, take, drop}
use lib.Seq.{ext_get_or, get_or-take}
use Rattle.automaton.specs.Run.{Automaton}
use Rattle.opacity.specs.declared.Notion.{Notion}
use Rattle.opacity.specs.declared.Secret.{Secret}
use Rattle.opacity.specs.Secrets.{largest}
use Rattle.verifier.proofs.Growing as estimators
use Rattle.enforcer.specs.Queues.{Longest}
use Rattle.enforcer.specs.Enforcers.{Padded, Grown}
use Rattle.enforcer.specs.declared.Enforcer.{Enforcer}

-- there is one longest safe prefix
pub one_longest : (S : List ℕ → ℕ → Type 0) (trace : List ℕ) (r s : ℕ) → Longest S trace r → Longest S trace s → r ≡ s
one_longest S trace r s x y = go (dec_lt r s) (dec_lt s r)
  where
    go : Dec (r < s) → Dec (s < r) → r ≡ s
    go (yes a) b = absurd (x.longest s a y.within y.safe)
    go (no a) (yes b) = absurd (y.longest r b x.within x.safe)
    go (no a) (no b) = omega arith

-- arrays that agree where they are in use
same_array : (size used : ℕ) (a b : List ℕ) → Padded size used a → Padded size used b → ((i : ℕ) → i < used → get_or a i 0 ≡ get_or b i 0) → a ≡ b
same_array size used a b x y same = ext_get_or 0 a b (x.size_is ∙ sym y.size_is) (λ i h. go i (dec_lt i used))
  where
    go : (i : ℕ) → Dec (i < used) → get_or a i 0 ≡ get_or b i 0
    go i (yes l) = same i l
    go i (no l) = x.zeros i (omega arith) ∙ sym (y.zeros i (omega arith))

module _ (notion : Notion) (p : Automaton) (cs : List Secret) (trace : List ℕ) where
  pub grown_unique : (s r : Enforcer) → s.estimator.further ≡ r.estimator.further → Grown notion p cs trace s → Grown notion p cs trace r → s ≡ r
  grown_unique s r same g h = λ i. record { estimator = estimator i; notion = under i; count = count i; pending = pending i; waits = waits i }
    where
      estimator : s.estimator ≡ r.estimator
      estimator = estimators.grown_unique p (largest cs) trace s.estimator r.estimator same g.estimator h.estimator

      under : s.notion ≡ r.notion
      under = g.under ∙ sym h.under

      count : s.count ≡ r.count
      count = omega (arith, one_longest _ trace _ _ g.queue.longest h.queue.longest, g.queue.few, h.queue.few)

      pending_same : (i : ℕ) → i < s.count → get_or s.pending i 0 ≡ get_or r.pending i 0
      pending_same i l =
          let e : take s.count s.pending ≡ take r.count r.pending =
          g.queue.pending_are ∙ ap (λ (n : ℕ). drop (length trace - n) trace) count ∙ sym h.queue.pending_are in
          sym (get_or-take s.count s.pending i 0 l) ∙ ap (λ (x : List ℕ). get_or x i 0) e ∙ get_or-take r.count r.pending i 0 (omega (arith, count))

      pending : s.pending ≡ r.pending
      pending = same_array 16 s.count s.pending r.pending g.pending_padded
          (subst (λ (n : ℕ). Padded 16 n r.pending) (sym count) h.pending_padded) pending_same

      -- each wait is the least number of later events after which the prefix up to its event is safe
      waits_same : (i : ℕ) → i < s.count → get_or s.waits i 0 ≡ get_or r.waits i 0
      waits_same i l =
          let shift : length trace - s.count ≡ length trace - r.count = ap (λ (n : ℕ). length trace - n) count in
          let low = (g.queue.waits_are i l (get_or r.waits i 0)).0
          (rw shift ((h.queue.waits_are i (omega (arith, count)) (get_or r.waits i 0)).1 (omega arith))) in
          let high = (h.queue.waits_are i (omega (arith, count)) (get_or s.waits i 0)).0
          (rw (← shift) ((g.queue.waits_are i l (get_or s.waits i 0)).1 (omega arith))) in
          omega arith

      waits : s.waits ≡ r.waits
      waits = same_array 16 s.count s.waits r.waits g.waits_padded (subst (λ (n : ℕ). Padded 16 n r.waits) (sym count) h.waits_padded)
          waits_same
