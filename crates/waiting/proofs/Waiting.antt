-- The largest wait of an exploration is the longest wait of the enforcers. Assumes nothing.
use mathlib.Core.Path.{◌≡◌, refl, ap, sym, ◌∙◌, subst}
use mathlib.Core.List.{List, [], ◌∷◌, ◌++◌, append_assoc}
use Prim.Native.Nat.{ℕ, suc, ◌+◌, ◌≤◌, ◌<◌}
use native.Mathlib.Omega.{arith}
use native.Mathlib.Decide.{dec_lt}
use lib.ListN.{length, take, replicate, length-append}
use lib.Seq.{length-take-le, take_at, take-take}
use Rattle.lists.specs.Calls.{done, next}
use Rattle.lists.proofs.Chains.{chain_append, joined_append, all_taken}
use Rattle.automaton.specs.Run.{automaton_of, Possible, WellFormed}
use Rattle.automaton.specs.declared.Header.{Header}
use Rattle.automaton.proofs.Traces.{prefix_possible, front_possible, symbol_observable}
use Rattle.opacity.specs.declared.Notion.{Notion}
use Rattle.opacity.specs.declared.Notion.TheVariants.{Weak, Strong}
use Rattle.opacity.specs.declared.Secret.{Secret}
use Rattle.opacity.specs.declared.Further.{Further}
use Rattle.opacity.specs.Secrets.{secrets_of, secret_at, cleared_of}
use Rattle.opacity.proofs.EveryVerdict.{every_verdict}
use Rattle.enforcer.specs.SafePrefix.{Safe, SafeForAll}
use Rattle.enforcer.specs.Enforcers.{GrownOn}
use Rattle.enforcer.specs.Offerings.{OfferOutcome, refused, released, started, Starting, Offering}
use Rattle.enforcer.specs.Offers as enforcer
use Rattle.enforcer.specs.Offers.{Offer, Offers, taken_by, taken_of, accepted_of, offered_of, Roomy, released_count, released_of, TurnedBack}
use Rattle.enforcer.specs.declared.Enforcer.{Enforcer}
use Rattle.enforcer.specs.declared.Release.{Release}
use Rattle.enforcer.proofs.SafeLaws.{safe_shorter, safe_wait, wait_safe}
use Rattle.enforcer.proofs.ThirdPoint.{third_point, started_after, held}
use Rattle.verifier.proofs.PastCount.{past_secrets}
use Rattle.explore.specs.LargestWaits.{LargestOfAll}
use Rattle.explore.specs.Explorations.{explored, Exploring, explored_all}
use Rattle.waiting.specs.AcceptedLists.{OfferedFrom}
use Rattle.waiting.specs.LongestWaits.{wait_by, LongestWait}
use Rattle.waiting.proofs.Answering.{Answered, answered}

-- lists of offers exist: every possible trace is accepted from one
module _ (notion : Notion) (t : List ℕ) (h : Header) (well_formed : WellFormed t h) where
  -- the enforcer after an accepted symbol has grown by it
  pub grows : (before : List ℕ) (s : Enforcer) (b : ℕ) (r : Release) (output : List ℕ) (m : Enforcer) (left : List ℕ) → GrownOn notion t h before s
      → Offering t h s b output (released r) m left → GrownOn notion t h (before ++ b ∷ []) m
  grows before s b r output m left g (Offering.accepted so li wide ob same after bal front' rest within exact) = (exact notion before g).grown

  pub list : (before : List ℕ) (s : Enforcer) (symbols : List ℕ) → GrownOn notion t h before s → Possible (automaton_of t h) (before ++ symbols)
      → OfferedFrom t h s symbols
  list before s [] g possible = record { offers = []; end = s; offered = done; accepted = refl }
  list before s (b ∷ rest) g possible =
      more rest (answered notion t h well_formed before s b (replicate 17 0) (omega arith) g (front_possible (automaton_of t h) (before ++ b ∷ []) rest later))
      (λ m g'. list (before ++ b ∷ []) m rest g' later)
    where
      later : Possible (automaton_of t h) ((before ++ b ∷ []) ++ rest)
      later = subst (Possible (automaton_of t h)) (sym (append_assoc before (b ∷ []) rest)) possible

      more : (rest : List ℕ) (a : Answered t h s b (replicate 17 0)) → ((m : Enforcer) → GrownOn notion t h (before ++ b ∷ []) m → OfferedFrom t h m rest)
          → OfferedFrom t h s (b ∷ rest)
      more rest a go =
          let y = go a.after (grows before s b a.r (replicate 17 0) a.after a.left g a.offering) in
          record {
            offers = record { byte = b; output = replicate 17 0; says = released a.r; left = a.left } ∷ y.offers;
            end = y.end;
            offered = next a.offering y.offered;
            accepted = ap (λ (l : List ℕ). b ∷ l) y.accepted;
          }

module _ (notion : Notion) (t : List ℕ) (h : Header) (f : Further) (s : Enforcer) (start : Starting t h f notion started s) (w : ℕ)
    (x : LargestOfAll notion (automaton_of t h) (secrets_of h f) w) where
  -- once the wait is over, a prefix is safe for all
  over : (first : List ℕ) (n : ℕ) → Possible (automaton_of t h) first → length first + w ≤ n → SafeForAll notion (automaton_of t h) (secrets_of h f) first n
  over first n possible late = record {
    each = λ i given.
        let c = secret_at (secrets_of h f) i in
        let v = every_verdict notion (automaton_of t h) c first in
        let low = x.most first possible i given _ (record { steps = v.0; tells = v.1; wait_is = refl }) in
        safe_wait notion (automaton_of t h) c first v.0 v.1 n (omega arith) (omega (arith, low));
  }

  in_time : (os : List Offer) (e : Enforcer) → Offers t h s os e → (i : ℕ) → suc i + w ≤ length (accepted_of os) → i < released_count os
  in_time os e g i late = elim (dec_lt i (released_count os)) [
    | yes d ↦ d
    | no d ↦
        let promise = third_point notion t h f s os e start g in
        let l : length (take (suc i) (accepted_of os)) ≡ suc i = length-take-le (suc i) (accepted_of os) (omega arith) in
        absurd (promise.longest (suc i) (omega arith) (omega arith)
        (over (take (suc i) (accepted_of os)) (length (accepted_of os))
        (prefix_possible (automaton_of t h) (accepted_of os) promise.grown.possible (suc i) (omega arith)) (omega arith)))
  ]

  -- the trace that has the wait, and the secret by which it has it
  abbrev first : List ℕ
  first = x.attained.trace

  abbrev secret : Secret
  secret = secret_at (secrets_of h f) x.attained.waits.number

  -- whoever offers it has it accepted
  taken : (os : List Offer) (m : Enforcer) → Offers t h s os m → offered_of os ≡ first → Roomy os → accepted_of os ≡ first
  taken os m g is roomy =
      all_taken taken_of (λ o. o.byte) _ (λ o. 17 ≤ length o.output) (Possible (automaton_of t h)) (front_possible (automaton_of t h))
      (λ trace o y room can. one trace o o.says y room can) [] os (third_point notion t h f s os m start g).accepted roomy
      (subst (Possible (automaton_of t h)) (sym is) x.attained.possible)
      ∙ is
    where
      one : (trace : List ℕ) (o : Offer) (says : OfferOutcome) → enforcer.Answered t h trace o says → 17 ≤ length o.output
          → Possible (automaton_of t h) (trace ++ o.byte ∷ []) → taken_by says o.byte ≡ o.byte ∷ []
      one trace o (refused n) (TurnedBack.output_too_small few) room can = absurd (omega arith)
      one trace o (refused n) (TurnedBack.not_observable wide never) room can = absurd (never (symbol_observable (automaton_of t h) trace o.byte [] can))
      one trace o (refused n) (TurnedBack.incompatible wide ob none-fits) room can = absurd (none-fits can.run can.compatible)
      one trace o (released r) y room can = refl

  -- as long as fewer than w follow, it is not released
  pending : (os later : List Offer) (m e : Enforcer) → Offers t h s os m → accepted_of os ≡ first → Offers t h m later e → length (accepted_of later) < w
      → released_count (os ++ later) < length first
  pending os later m e g is k few = elim (dec_lt (released_count (os ++ later)) (length first)) [
    | yes d ↦ d
    | no d ↦
        let promise = third_point notion t h f s (os ++ later) e start (chain_append g k) in
        let all = length (accepted_of (os ++ later)) in
        let both : accepted_of (os ++ later) ≡ first ++ accepted_of later = joined_append taken_of os later ∙ ap (λ (l : List ℕ). l ++ accepted_of later) is in
        let n : all ≡ length first + length (accepted_of later) = ap length both ∙ length-append first (accepted_of later) in
        let bal = promise.balance in
        let r : released_count (os ++ later) ≤ all = omega arith in
        let cut : take (length first) (released_of (os ++ later)) ≡ first =
        ap (take (length first)) promise.prefix ∙ take-take (length first) (released_count (os ++ later)) (accepted_of (os ++ later)) (omega arith)
        ∙ ap (take (length first)) both ∙ take_at first (accepted_of later) (length first) refl in
        let long : length (released_of (os ++ later)) ≡ released_count (os ++ later) =
        ap length promise.prefix ∙ length-take-le (released_count (os ++ later)) (accepted_of (os ++ later)) r in
        let safe : Safe notion (automaton_of t h) secret first all = subst (λ (l : List ℕ). Safe notion (automaton_of t h) secret l all) cut
        (safe_shorter notion (automaton_of t h) secret (released_of (os ++ later)) all (length first) (omega arith)
        (promise.safe.each x.attained.waits.number x.attained.waits.given)) in
        let wait = x.attained.waits.wait in
        absurd (omega (
          arith,
          wait.wait_is,
          wait_safe notion (automaton_of t h) secret first wait.steps wait.tells all (omega arith) safe,
        ))
  ]

  pub longest_wait : LongestWait t h s w
  longest_wait =
      let begin = started_after notion t h f s start in
      record {
        in_time = in_time;
        reached = λ some. record {
          trace = first;
          exists = list notion t h begin.0 [] s first (held notion t h f [] s begin.1) x.attained.possible;
          taken = taken;
          pending = pending;
        };
      }

-- where an enforcer starts with the same secrets, the waits that an exploration gives are the longest ones
pub exploration_waits : (t : List ℕ) (h : Header) (f g : Further) (limit number weak strong : ℕ) → Exploring t h f limit (explored number weak strong)
    → cleared_of f ≡ cleared_of g → (notion : Notion) (s : Enforcer) → Starting t h g notion started s → LongestWait t h s (wait_by notion weak strong)
exploration_waits t h f g limit number weak strong (explored_all e) same Weak s start =
    longest_wait Weak t h g s start weak (subst (λ (cs : List Secret). LargestOfAll Weak (automaton_of t h) cs weak) (past_secrets f g same h) e.weak_is)
exploration_waits t h f g limit number weak strong (explored_all e) same Strong s start =
    longest_wait Strong t h g s start strong (subst (λ (cs : List Secret). LargestOfAll Strong (automaton_of t h) cs strong) (past_secrets f g same h)
    e.strong_is)
