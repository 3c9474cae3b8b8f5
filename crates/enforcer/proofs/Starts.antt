-- A start's outcome, from the opening verdicts; and that what stands past the count of further secrets counts for nothing. Assumes nothing.
use mathlib.Core.Path.{◌≡◌, refl, sym, subst, ◌∙◌}
use mathlib.Core.List.{List, []}
use mathlib.Core.Logic.{◌⊎◌, inl, inr}
use Prim.Native.Nat.{ℕ, ◌+◌, ◌≤◌, ◌<◌}
use native.Mathlib.Omega.{arith}
use lib.ListN.{length, get_or}
use Rattle.automaton.specs.Run.{Automaton, automaton_of, WellFormed}
use Rattle.automaton.specs.declared.Header.{Header}
use Rattle.opacity.specs.declared.Notion.{Notion}
use Rattle.opacity.specs.declared.Secret.{Secret}
use Rattle.opacity.specs.declared.Further.{Further}
use Rattle.verifier.specs.declared.Estimator.{Estimator}
use Rattle.opacity.specs.Secrets.{secrets_of, secret_at, ForEach, largest, cleared_of, Allowed}
use Rattle.opacity.specs.Verdicts.{Steps, none, leak, Tells}
use Rattle.verifier.specs.Estimators as estimators
use Rattle.verifier.specs.Replies as verifier
use Rattle.verifier.specs.Replies.{Opening, findings, chosen_each, steps_each}
use Rattle.opacity.proofs.Numbering.{look_back_small}
use Rattle.opacity.proofs.Exactness.{clear_unsure}
use Rattle.verifier.proofs.PastCount.{past_count, past_secrets, past_allowed, past_large, with_further, past_limits, past_grown}
use Rattle.enforcer.specs.Enforcers.{InLimits, Padded, Grown, GrownOn}
use Rattle.enforcer.specs.Queues.{Queue}
use Rattle.enforcer.specs.Offerings.{StartOutcome, OfferOutcome, refused, not_started, started, Unusable, OpensAsLeak, Starting, Offering}
use Rattle.enforcer.specs.Waits.{wait_of, LargestWait}
use Rattle.enforcer.specs.declared.Enforcer.{Enforcer}
use Rattle.enforcer.specs.SafePrefix.{SafeForAll}
use Rattle.enforcer.proofs.SafeLaws.{safe_wait}
use Rattle.enforcer.proofs.ForAll.{kept_secrets, all_or_some, chosen_told}
use Rattle.enforcer.proofs.Queueing.{queue_start}
use Rattle.verifier.specs.declared.Judgement.{Judgement}
use Rattle.opacity.specs.declared.Verdicts.{Verdicts}

-- one that holds 255 symbols is outside its limits
unusable : (s : Enforcer) → s.count ≡ 255 → Unusable s
unusable s e K h li = omega (arith, li.few)

pub start_refused : (t : List ℕ) (h : Header) (f : Further) (notion : Notion) (n : ℕ) (e : Estimator) (s : Enforcer) → Opening t h f (verifier.refused n) e
    → s.count ≡ 255 → Starting t h f notion (not_started n) s
start_refused t h f notion n e s (Opening.malformed bad out) c = Starting.malformed bad (unusable s c)
start_refused t h f notion n e s (Opening.too_many_secrets so many out) c = Starting.too_many_secrets so many (unusable s c)
start_refused t h f notion n e s (Opening.look_back_too_large so few large out) c = Starting.look_back_too_large so few large (unusable s c)

-- of the empty trace: a verdict whose wait is not over is leak 0, and one whose wait is over is none
module _ (notion : Notion) (p : Automaton) (secret : Secret) where
  opens_leak : (u : Steps) → Tells notion p secret [] u → 0 < wait_of secret.k u → Tells notion p secret [] (leak 0)
  opens_leak none t h = absurd (omega arith)
  opens_leak (leak l) t h = let z : l ≡ 0 = omega (arith, t.reached) in subst (λ (k : ℕ). Tells notion p secret [] (leak k)) z t

  opens_none : (u : Steps) → Tells notion p secret [] u → wait_of secret.k u ≤ 0 → Tells notion p secret [] none
  opens_none none t h = t
  opens_none (leak l) t h = absurd (omega (arith, t.within))

-- what was given may be given
pub opened_given : (t : List ℕ) (h : Header) (f : Further) (j : Judgement Verdicts) (e : Estimator) → Opening t h f (verifier.verdicts (findings f j)) e
    → (h.k ≤ 15) × Allowed f
opened_given t h f j e (Opening.opened so allowed same li many within x) = (so.back, allowed)

module _ (t : List ℕ) (h : Header) (f : Further) (notion : Notion) (j : Judgement Verdicts) (e : Estimator) (w : ℕ)
    (most : LargestWait (secrets_of h f) (steps_each f (chosen_each notion j.verdicts)) w) where
  abbrev says : ℕ → Steps
  says i = get_or (steps_each f (chosen_each notion j.verdicts)) i none

  abbrev at : ℕ → Secret
  at i = secret_at (secrets_of h f) i

  -- the verdicts by the notion
  chosen_tells : verifier.Exact t h (secrets_of h f) [] (findings f j) e → ForEach (secrets_of h f) (λ i c. Tells notion (automaton_of t h) c [] (says i))
  chosen_tells x i given = subst (Tells notion (automaton_of t h) (at i) []) (chosen_told notion f j.verdicts i) (x.tells notion i given)

  pub start_open : (s : Enforcer) → Opening t h f (verifier.verdicts (findings f j)) e → (w ≡ 0 → ⊥) → s.count ≡ 255 → Starting t h f notion (not_started 8) s
  start_open s (Opening.opened so allowed same li many within x) some c =
      Starting.initial_leak so allowed (go (all_or_some (λ i. wait_of (at i).k (says i)) 0 (length (secrets_of h f)))) (unusable s c)
    where
      go : ((i : ℕ) → i < length (secrets_of h f) → wait_of (at i).k (says i) ≤ 0) ⊎ ((i : ℕ) × (i < length (secrets_of h f)) × (0 < wait_of (at i).k (says i)))
          → OpensAsLeak notion (automaton_of t h) (secrets_of h f)
      go (inl all) = let low = (most 0).0 all in absurd (some (omega arith))
      go (inr y) = record {
        number = y.0;
        given = y.1;
        tells = opens_leak notion (automaton_of t h) (at y.0) (says y.0) (chosen_tells x y.0 y.1) y.2;
      }

  fresh_grown : (cs : List Secret) (pending waits : List ℕ) → Padded 16 0 pending → Padded 16 0 waits → estimators.Limits (largest cs) e
      → estimators.Grown (automaton_of t h) (largest cs) [] e → ForEach cs (λ i c. Tells notion (automaton_of t h) c [] none)
      → Grown notion (automaton_of t h) cs [] (record { estimator = e; notion = notion; count = 0; pending = pending; waits = waits })
  fresh_grown cs pending waits padded padded' li g tells =
      record {
        possible = g.possible;
        pending_padded = padded;
        waits_padded = padded';
        limits = record { estimator = li; few = omega arith; small = λ i h. absurd (omega arith) };
        estimator = g;
        under = refl;
        queue = queue_start (SafeForAll notion (automaton_of t h) cs) pending waits
            (record { each = λ i given. safe_wait notion (automaton_of t h) _ [] none (tells i given) 0 (omega arith) (omega arith) });
      }

  pub start_ready : (pending waits : List ℕ) → Padded 16 0 pending → Padded 16 0 waits → Opening t h f (verifier.verdicts (findings f j)) e → w ≡ 0
      → Starting t h f notion started (record { estimator = e; notion = notion; count = 0; pending = pending; waits = waits })
  start_ready pending waits padded padded' (Opening.opened so allowed same li many within x) over =
      Starting.ready so allowed each_none same (fresh_grown (secrets_of h e.further) pending waits padded padded' li x.grown
      (subst (λ (cs : List Secret). ForEach cs (λ i c. Tells notion (automaton_of t h) c [] none)) (sym (kept_secrets h f e.further same)) each_none))
    where
      each_none : ForEach (secrets_of h f) (λ i c. Tells notion (automaton_of t h) c [] none)
      each_none i given = opens_none notion (automaton_of t h) (at i) (says i) (chosen_tells x i given) ((most 0).1 (omega arith) i given)

outside : {t : List ℕ} {h : Header} {f : Further} {notion : Notion} {n : ℕ} {s : Enforcer} → Starting t h f notion (not_started n) s → Unusable s
outside (Starting.malformed bad u) = u
outside (Starting.too_many_secrets so many u) = u
outside (Starting.look_back_too_large so few large u) = u
outside (Starting.initial_leak so allowed tells u) = u

never : (s : Enforcer) (t : List ℕ) (h : Header) → Unusable s → WellFormed t h → InLimits h s → ⊥
never s t h u so li = u _ (look_back_small h s.estimator.further so.back li.estimator.allowed) li

-- what a refused start hands back is no enforcer: every offer to it, with every table and header, gets 9
pub refused_start : (t : List ℕ) (h : Header) (f : Further) (notion : Notion) (n : ℕ) (s : Enforcer) → Starting t h f notion (not_started n) s
    → (t' : List ℕ) (h' : Header) (byte : ℕ) (output : List ℕ) (r : OfferOutcome) (m : Enforcer) (left : List ℕ) → Offering t' h' s byte output r m left
    → r ≡ refused 9
refused_start t h f notion n s x t' h' byte output r m left (Offering.malformed bad) = refl
refused_start t h f notion n s x t' h' byte output r m left (Offering.output_too_small so li few) = absurd (never s t' h' (outside x) so li)
refused_start t h f notion n s x t' h' byte output r m left (Offering.not_observable so li wide ob) = absurd (never s t' h' (outside x) so li)
refused_start t h f notion n s x t' h' byte output r m left (Offering.incompatible so li wide ob stuck) = absurd (never s t' h' (outside x) so li)
refused_start t h f notion n s x t' h' byte output r m left (Offering.accepted so li wide ob same after bal front rest within exact) =
    absurd (never s t' h' (outside x) so li)

-- where each secret opens as none, none opens as leak 0
pub never_opens : (notion : Notion) (p : Automaton) (cs : List Secret) → ForEach cs (λ i c. Tells notion p c [] none) → OpensAsLeak notion p cs → ⊥
never_opens notion p cs tells x =
    clear_unsure notion p (secret_at cs x.number) [] 0 (tells x.number x.given 0 (omega arith) (omega arith)) x.tells.sure

-- a place past the count of further secrets counts for nothing: two that differ there alone are answered alike
pub past_starting : (t : List ℕ) (h : Header) (f g : Further) → cleared_of f ≡ cleared_of g → (notion : Notion) (r : StartOutcome) (s : Enforcer)
    → Starting t h f notion r s → Starting t h g notion r s
past_starting t h f g same notion r s (Starting.malformed bad out) = Starting.malformed bad out
past_starting t h f g same notion r s (Starting.too_many_secrets so many out) = Starting.too_many_secrets so (omega (arith, past_count f g same)) out
past_starting t h f g same notion r s (Starting.look_back_too_large so few large out) =
    Starting.look_back_too_large so (omega (arith, past_count f g same)) (past_large f g same large) out
past_starting t h f g same notion r s (Starting.initial_leak so allowed leaks out) =
    Starting.initial_leak so (past_allowed f g same allowed) (subst (OpensAsLeak notion (automaton_of t h)) (past_secrets f g same h) leaks) out
past_starting t h f g same notion r s (Starting.ready so allowed tells is grown) =
    Starting.ready so (past_allowed f g same allowed)
    (subst (λ (cs : List Secret). ForEach cs (λ i c. Tells notion (automaton_of t h) c [] none)) (past_secrets f g same h) tells) (is ∙ same) grown

-- and a saved enforcer that differs there alone is within its limits alike, and has grown by the same traces
abbrev keeps_further : Enforcer → Further → Enforcer
keeps_further s g = record { estimator = with_further s.estimator g; notion = s.notion; count = s.count; pending = s.pending; waits = s.waits }

module _ (t : List ℕ) (h : Header) (s : Enforcer) (g : Further) (same : cleared_of s.estimator.further ≡ cleared_of g) where
  secrets_same : secrets_of h s.estimator.further ≡ secrets_of h g
  secrets_same = past_secrets s.estimator.further g same h

  pub past_limits_kept : InLimits h s → InLimits h (keeps_further s g)
  past_limits_kept li =
      record {
        estimator = past_limits t h s.estimator g same li.estimator;
        few = subst (λ (cs : List Secret). s.count ≤ largest cs + 1) secrets_same li.few;
        small = li.small;
      }

  pub past_grown_kept : (notion : Notion) (trace : List ℕ) → GrownOn notion t h trace s → GrownOn notion t h trace (keeps_further s g)
  past_grown_kept notion trace x =
      record {
        limits = past_limits_kept x.limits;
        possible = x.possible;
        estimator = past_grown t h s.estimator g same trace x.estimator;
        under = x.under;
        queue = subst (λ (cs : List Secret). Queue (SafeForAll notion (automaton_of t h) cs) trace s.count s.pending s.waits) secrets_same x.queue;
        pending_padded = x.pending_padded;
        waits_padded = x.waits_padded;
      }
