-- What one more event makes of an enforcer. Assumes nothing.
use mathlib.Core.Path.{◌≡◌, refl, ap, sym, ◌∙◌}
use mathlib.Core.List.{List, [], ◌∷◌, ◌++◌}
use mathlib.Core.Logic.{◌⊎◌, inl, inr}
use Prim.Native.Nat.{ℕ, ◌+◌, ◌≤◌, ◌<◌, ◌-◌}
use native.Mathlib.Omega.{arith}
use native.Mathlib.Decide.{dec_lt}
use lib.ListN.{length, get_or, take, drop, length-append, length-drop, get_or-append}
use lib.Seq.{length-take-le, take-take, ext_get_or, get_or-take, get_or-drop, get_or_at}
use mathlib.Core.Bool.{Bool}
use Rattle.stateset.specs.Set.{Decided}
use Rattle.stateset.proofs.Decides.{decided_as}
use Rattle.automaton.specs.Run.{Automaton, Possible, WellFormed}
use Rattle.automaton.specs.declared.Header.{Header}
use Rattle.opacity.specs.declared.Notion.{Notion}
use Rattle.verifier.specs.declared.Estimator.{Estimator}
use Rattle.opacity.specs.declared.Secret.{Secret}
use Rattle.opacity.specs.Secrets.{ForEach, largest, look_back_of}
use Rattle.opacity.specs.Verdicts.{Steps, none, Tells}
use Rattle.verifier.specs.Estimators as estimators
use Rattle.enforcer.specs.SafePrefix.{SafeForAll}
use Rattle.enforcer.specs.Enforcers.{Limits, InLimits, pending_of, Padded, Grown}
use Rattle.enforcer.specs.Waits.{LargestWait}
use Rattle.enforcer.specs.Inner.{PendingWithin, Ready, Enqueued}
use Rattle.enforcer.specs.declared.Enforcer.{Enforcer}
use Rattle.enforcer.proofs.ForAll.{safe_for_all_laws, wait_for_all}
use Rattle.enforcer.proofs.Queueing.{queue_next}

-- the pending events and one more are the front of the array that they were joined in
joined_list : (pending symbols : List ℕ) (count byte : ℕ) → count ≤ length pending → count < length symbols
    → ((i : ℕ) → i < count → get_or symbols i 0 ≡ get_or pending i 0) → get_or symbols count 0 ≡ byte
    → take count pending ++ byte ∷ [] ≡ take (count + 1) symbols
joined_list pending symbols count byte room wide same last =
    let a : length (take count pending) ≡ count = length-take-le count pending room in
    let b : length (take (count + 1) symbols) ≡ count + 1 = length-take-le (count + 1) symbols (omega arith) in
    let d : length (take count pending ++ byte ∷ []) ≡ count + 1 = length-append (take count pending) (byte ∷ []) ∙ omega arith in
    ext_get_or 0 (take count pending ++ byte ∷ []) (take (count + 1) symbols) (omega arith)
    (λ i h. elim (dec_lt i count) [
      | yes less ↦ get_or-append (take count pending) (byte ∷ []) 0 i (omega arith) ∙ get_or-take count pending i 0 less ∙ sym (same i less)
          ∙ sym (get_or-take (count + 1) symbols i 0 (omega arith))
      | no more ↦
          let e : i ≡ count = omega arith in
          get_or_at (take count pending) byte [] 0 i (omega arith) ∙ sym last ∙ ap (λ (k : ℕ). get_or symbols k 0) (sym e)
          ∙ sym (get_or-take (count + 1) symbols i 0 (omega arith))
    ])

-- what is copied down from an array is what follows its first f
rest_list : (symbols after : List ℕ) (f n : ℕ) → f ≤ n → n ≤ length symbols → n - f ≤ length after
    → ((i : ℕ) → i < n - f → get_or after i 0 ≡ get_or symbols (f + i) 0) → take (n - f) after ≡ drop f (take n symbols)
rest_list symbols after f n le wide room same =
    let a : length (take (n - f) after) ≡ n - f = length-take-le (n - f) after room in
    let b : length (drop f (take n symbols)) ≡ n - f = length-drop f (take n symbols) ∙ ap (λ (k : ℕ). k - f) (length-take-le n symbols wide) in
    ext_get_or 0 (take (n - f) after) (drop f (take n symbols)) (omega arith)
    (λ i h. get_or-take (n - f) after i 0 (omega arith) ∙ same i (omega arith)
    ∙ sym (get_or-drop f (take n symbols) i 0 ∙ get_or-take n symbols (f + i) 0 (omega arith)))

pub took_in : (K : ℕ) (self : Enforcer) (estimator : Estimator) (w byte : ℕ) (output : List ℕ) (f : ℕ) (symbols soon pending waits left : List ℕ)
    → length self.pending ≡ 16 → length symbols ≡ 17 → Padded 16 (self.count + 1 - f) pending → Padded 16 (self.count + 1 - f) waits → K ≤ 15
    → self.count ≤ K + 1
    → ((i : ℕ) → i < self.count → get_or symbols i 0 ≡ get_or self.pending i 0) → get_or symbols self.count 0 ≡ byte
    → ((i : ℕ) → i < self.count → get_or soon i 0 ≡ get_or self.waits i 0 - 1) → get_or soon self.count 0 ≡ w
    → Ready K self.count soon f
    → left ≡ take f symbols ++ drop f output
    → ((i : ℕ) → i < self.count + 1 - f → get_or pending i 0 ≡ get_or symbols (f + i) 0)
    → ((i : ℕ) → i < self.count + 1 - f → get_or waits i 0 ≡ get_or soon (f + i) 0)
    → Enqueued K self estimator w byte output f (record {
      estimator = estimator;
      notion = self.notion;
      count = self.count + 1 - f;
      pending = pending;
      waits = waits;
    }) left
took_in K self estimator w byte output f symbols soon pending waits left l16 l17 padded padded' k15 few same last older newer ready poured down later =
    let e : pending_of self ++ byte ∷ [] ≡ take (self.count + 1) symbols = joined_list self.pending symbols self.count byte (omega arith)
    (omega arith) same last in
    let some = ready.some in
    let h16 = padded.size_is in
    record {
      estimator_is = refl;
      notion_is = refl;
      pending_padded = padded;
      waits_padded = padded';
      front = poured ∙ ap (λ (l : List ℕ). l ++ drop f output) (sym (ap (take f) e ∙ take-take f (self.count + 1) symbols some));
      small = λ symbol old i h.
          let d = down i h in
          elim (dec_lt (f + i) self.count) [
            | yes less ↦ omega (arith, same (f + i) less, old (f + i) less)
            | no more ↦
                let e : f + i ≡ self.count = omega arith in
                omega (arith, ap (λ (k : ℕ). get_or symbols k 0) e, last)
          ];
      shifted = record {
        balance = omega arith;
        rest = rest_list symbols pending f (self.count + 1) some (omega arith) (omega arith) down ∙ ap (drop f) (sym e);
        soon = soon;
        soon_old = older;
        soon_new = newer;
        later = later;
        ready = ready;
      };
    }

module _ (notion : Notion) (p : Automaton) (cs : List Secret) (acc : List ℕ) (self : Enforcer) (estimator : Estimator) (vs : List Steps) (w byte : ℕ)
    (output : List ℕ) (f : ℕ) (after : Enforcer) (left : List ℕ) (g : Grown notion p cs acc self)
    (tells : ForEach cs (λ i c. Tells notion p c (acc ++ byte ∷ []) (get_or vs i none))) (most : LargestWait cs vs w)
    (took : Enqueued (largest cs) self estimator w byte output f after left) where
  pub grown_next : Possible p (acc ++ byte ∷ []) → estimators.Grown p (largest cs) (acc ++ byte ∷ []) estimator → Limits (largest cs) after
      → Grown notion p cs (acc ++ byte ∷ []) after
  grown_next observed-trace ge la =
      let l : length (acc ++ byte ∷ []) ≡ length acc + 1 = length-append acc (byte ∷ []) in
      record {
        limits = la;
        possible = observed-trace;
        pending_padded = took.pending_padded;
        waits_padded = took.waits_padded;
        estimator = rw took.estimator_is ge;
        under = took.notion_is ∙ g.under;
        queue = queue_next (largest cs) (SafeForAll notion p cs) (safe_for_all_laws notion p cs) acc self.count self.pending self.waits w byte f
            after.count after.pending after.waits g.queue
            (λ m.
            let x = wait_for_all notion p cs (acc ++ byte ∷ []) vs tells w most (length acc + 1 + m) (omega arith) in (
              λ safe. omega (arith, x.0 safe),
              λ low. x.1 (omega arith),
            ))
            took.shifted;
      }

-- an enforcer that is full releases its first symbol
pub ready_one : (K count : ℕ) (soon : List ℕ) → K < count → count ≤ K + 1 → (get_or soon 0 0 ≡ 0 → ⊥) → Ready K count soon 1
ready_one K count soon full few waits = record {
  some = omega arith;
  enough = omega arith;
  over = λ c i h. absurd (never c);
  next = λ c more zero. never c;
}
  where
    never : (count ≤ K) ⊎ (get_or soon 0 0 ≡ 0) → ⊥
    never (inl low) = omega arith
    never (inr z) = waits z

-- the limits of the estimator and those of the pending symbols are those of the enforcer
pub limits_joined : (K : ℕ) (s : Enforcer) → estimators.Limits K s.estimator → PendingWithin K s → Limits K s
limits_joined K s li pending = record { estimator = li; few = pending.few; small = pending.small }

pub limits_decide : (t : List ℕ) (h : Header) (s : Enforcer) (b : Bool) → WellFormed t h → estimators.InLimits h s.estimator
    → Decided b (PendingWithin (look_back_of h s.estimator.further) s) → Decided b (WellFormed t h × InLimits h s)
limits_decide t h s b sound li d =
    decided_as {A = PendingWithin (look_back_of h s.estimator.further) s} {B = WellFormed t h × InLimits h s} b
    (λ pending. (sound, limits_joined (look_back_of h s.estimator.further) s li pending)) (λ both. record { few = both.1.few; small = both.1.small }) d
