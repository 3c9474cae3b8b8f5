-- An offer's outcome, from what the verifier said and what was taken in. Assumes nothing.
use Rattle.std.specs.Prelude.{Err, Ok, Result}
use mathlib.Core.Path.{◌≡◌, ap, sym, ◌∙◌, subst}
use mathlib.Core.List.{List, [], ◌∷◌, ◌++◌}
use Prim.Native.Nat.{ℕ, ◌≤◌}
use native.Mathlib.Omega.{arith}
use lib.ListN.{length, get_or}
use Rattle.automaton.specs.Run.{automaton_of, WellFormed}
use Rattle.automaton.specs.Reaching.{EstimateSize, SizeWithin}
use Rattle.automaton.specs.declared.Header.{Header}
use Rattle.refusal.specs.declared.Refusal.{Refusal}
use Rattle.refusal.specs.Refusals.{number_of}
use Rattle.automaton.proofs.SymbolSets.{observable_small}
use Rattle.opacity.specs.declared.Notion.{Notion}
use Rattle.opacity.specs.declared.Further.{Further}
use Rattle.verifier.specs.declared.Estimator.{Estimator}
use Rattle.opacity.specs.Secrets.{secrets_of, ForEach, look_back_of}
use Rattle.opacity.specs.Verdicts.{Steps, none, Tells}
use Rattle.verifier.specs.Estimators as estimators
use Rattle.verifier.specs.Replies as verifier
use Rattle.verifier.specs.Replies.{Accepting, Moved, TellsBy}
use Rattle.enforcer.specs.Enforcers.{Limits, InLimits, Grown, secrets_in}
use Rattle.enforcer.specs.Offerings.{refused, offer_outcome, Offering, not_observable, incompatible, accepted}
use Rattle.enforcer.specs.Waits.{LargestWait}
use Rattle.enforcer.specs.Inner.{PendingWithin, Enqueues}
use Rattle.enforcer.specs.declared.Enforcer.{Enforcer}
use Rattle.enforcer.specs.declared.Reply.{Reply}
use Rattle.enforcer.proofs.TakingIn.{limits_joined, grown_next}
use Rattle.enforcer.specs.declared.Release.{Release}

pub refused_outcome : (t : List ℕ) (h : Header) (self : Enforcer) (byte : ℕ) (output : List ℕ) (n : ℕ) (s : Estimator)
    → PendingWithin (look_back_of h self.estimator.further) self → 17 ≤ length output → Accepting t h self.estimator byte (verifier.refused n) s
    → Offering t h self byte output (refused n) self output
refused_outcome t h self byte output n s pending wide (Accepting.malformed bad) = Offering.malformed (λ both. bad (both.0, both.1.estimator))
refused_outcome t h self byte output n s pending wide (Accepting.not_observable so li never) = not_observable so (limits_joined _ self li pending) wide never
refused_outcome t h self byte output n s pending wide (Accepting.incompatible so li ob nobody) =
    incompatible so (limits_joined _ self li pending) wide ob (λ notion trace g. nobody trace g.estimator)

-- a refusal that is handed back
pub refused_given : (t : List ℕ) (h : Header) (self : Enforcer) (byte : ℕ) (output : List ℕ) (refusal : Refusal) (r : Reply Release) → r.enforcer ≡ self
    → r.answer ≡ Err refusal
    → Offering t h self byte output (refused (number_of refusal)) self output → Offering t h self byte output (offer_outcome r.answer) r.enforcer output
refused_given t h self byte output refusal r e f x = rw (e, f) x

pub taken_outcome : (t : List ℕ) (h : Header) (self : Enforcer) (byte : ℕ) (output : List ℕ) (vs : List Steps) (w size : ℕ) (s : Estimator) (r : Result Release Refusal)
    (after : Enforcer) (left : List ℕ) → WellFormed t h → InLimits h self → 17 ≤ length output → Moved t h self.estimator byte size s
    → ForEach (secrets_in h self) (λ i c. TellsBy self.notion t h self.estimator byte c (get_or vs i none)) → LargestWait (secrets_in h self) vs w
    → Enqueues (look_back_of h self.estimator.further) self s w size byte output r after left → Offering t h self byte output (offer_outcome r) after left
taken_outcome t h self byte output vs w size s (Err r) after left so li wide moved told most took = absurd took
taken_outcome t h self byte output vs w size s (Ok r) after left so li wide moved told most (took, is) =
    let enough = took.shifted.ready.enough in
    let bal = took.shifted.balance in
    let ob = moved.observable in
    let same : after.estimator.further ≡ self.estimator.further = ap (λ (e : Estimator). e.further) took.estimator_is ∙ moved.same in
    let kept : estimators.Limits (look_back_of h self.estimator.further) s =
    subst (λ (x : Further). estimators.Limits (look_back_of h x) s) moved.same moved.limits_after in
    let limits : Limits (look_back_of h self.estimator.further) after = record {
      estimator = rw took.estimator_is kept;
      few = omega arith;
      small = took.small (observable_small t h byte so ob) li.small;
    } in
    accepted so li wide ob same (subst (λ (x : Further). Limits (look_back_of h x) after) (sym same) limits) took.shifted.balance took.front
    took.shifted.rest (subst SizeWithin (sym is) moved.size_within)
    (λ notion trace g.
    let n = moved.grown trace g.estimator in
    let tells : ForEach (secrets_in h self) (λ i c. Tells notion (automaton_of t h) c (trace ++ byte ∷ []) (get_or vs i none)) =
    subst (λ (x : Notion). ForEach (secrets_in h self) (λ i c. Tells x (automaton_of t h) c (trace ++ byte ∷ []) (get_or vs i none))) g.under
    (λ i given. (told i given).tells trace g.estimator) in
    record {
      possible = n.possible;
      size = subst (EstimateSize (automaton_of t h) (trace ++ byte ∷ [])) (sym is) (moved.size trace g.estimator);
      grown = subst (λ (x : Further). Grown notion (automaton_of t h) (secrets_of h x) (trace ++ byte ∷ []) after) (sym same)
          (grown_next notion (automaton_of t h) (secrets_in h self) trace self s vs w byte output r.count after left g tells most took n.possible
          (subst (λ (x : Further). estimators.Grown (automaton_of t h) (look_back_of h x) (trace ++ byte ∷ []) s) moved.same n) limits);
    })
