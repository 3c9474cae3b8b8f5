-- The mission's third point, from what each offer promises. Assumes nothing.
use mathlib.Core.Path.{◌≡◌, sym, ◌∙◌, subst}
use mathlib.Core.List.{List, [], ◌∷◌, ◌++◌, append-nil}
use Prim.Native.Nat.{ℕ, ◌≤◌}
use native.Mathlib.Omega.{arith}
use lib.ListN.{length, take}
use lib.Seq.{length-take-le}
use Rattle.automaton.specs.Run.{automaton_of, WellFormed}
use Rattle.automaton.specs.declared.Header.{Header}
use Rattle.opacity.specs.declared.Notion.{Notion}
use Rattle.opacity.specs.declared.Secret.{Secret}
use Rattle.opacity.specs.declared.Further.{Further}
use Rattle.opacity.specs.Secrets.{secrets_of, look_back_of, cleared_of}
use Rattle.automaton.proofs.Estimates.{right_size}
use Rattle.enforcer.specs.SafePrefix.{SafeForAll}
use Rattle.enforcer.specs.Enforcers.{Grown, GrownOn}
use Rattle.enforcer.specs.Offerings.{OfferOutcome, refused, started, Starting, Offering}
use Rattle.enforcer.specs.Offers.{Offer, Offered, Offers, accepted_of, released_count, TurnedBack, Answered, EnforcerPromise}
use Rattle.enforcer.specs.declared.Enforcer.{Enforcer}
use Rattle.enforcer.proofs.ForAll.{kept_secrets, safe_for_all_laws, all_by_runs, some_unsafe}
use Rattle.enforcer.proofs.Unique.{grown_unique}
use Rattle.enforcer.proofs.Lists.{passes_refused, passes_accepted, One, kept}

-- after the trace, with the secrets that were given
pub record After (notion : Notion) (t : List ℕ) (h : Header) (f : Further) (trace : List ℕ) (s : Enforcer) : Type 0 where
  pub same : s.estimator.further ≡ cleared_of f
  pub grown : Grown notion (automaton_of t h) (secrets_of h f) trace s

module _ (notion : Notion) (t : List ℕ) (h : Header) (f : Further) where
  pub held : (trace : List ℕ) (s : Enforcer) → After notion t h f trace s → GrownOn notion t h trace s
  held trace s g = subst (λ (cs : List Secret). Grown notion (automaton_of t h) cs trace s) (sym (kept_secrets h f _ g.same)) g.grown

  pub after_held : (trace : List ℕ) (s : Enforcer) → s.estimator.further ≡ cleared_of f → GrownOn notion t h trace s → After notion t h f trace s
  after_held trace s same g = record {
    same = same;
    grown = subst (λ (cs : List Secret). Grown notion (automaton_of t h) cs trace s)
        (kept_secrets h f _ same) g;
  }

  pub started_after : (s : Enforcer) → Starting t h f notion started s → WellFormed t h × After notion t h f [] s
  started_after s (Starting.ready well_formed allowed tells same grown) = (well_formed, after_held [] s same grown)

module _ (notion : Notion) (t : List ℕ) (h : Header) (f : Further) (well_formed : WellFormed t h) where
  abbrev AfterBy : List ℕ → Enforcer → Type 0
  AfterBy trace s = After notion t h f trace s

  abbrev Table : List ℕ → Offer → Type 0
  Table trace o = Answered t h trace o o.says

  abbrev pending_count : Enforcer → ℕ
  pending_count s = s.count

  abbrev OneOf : List ℕ → Enforcer → Offer → Enforcer → Type 0
  OneOf trace s o m = One Enforcer (Offered t h) pending_count AfterBy Table trace s o m

  -- an offer that the table turns back changes nothing
  turned : (trace : List ℕ) (s : Enforcer) (b : ℕ) (output left : List ℕ) (n : ℕ) → AfterBy trace s → TurnedBack t h trace b output n
      → OneOf trace s (record { byte = b; output = output; says = refused n; left = left }) s
  turned trace s b output left n g back =
      record { judged = back; after = rw (append-nil trace) g; passes = passes_refused trace s.count b n output left g.grown.queue.few }

  pub one : (trace : List ℕ) (s : Enforcer) (b : ℕ) (output : List ℕ) (r : OfferOutcome) (m : Enforcer) (left : List ℕ) → AfterBy trace s
      → Offering t h s b output r m left → OneOf trace s (record { byte = b; output = output; says = r; left = left }) m
  one trace s b output r m left g (Offering.malformed bad) = absurd (bad (well_formed, (held notion t h f trace s g).limits))
  one trace s b output r m left g (Offering.output_too_small so li few) = turned trace s b output left 10 g (TurnedBack.output_too_small few)
  one trace s b output r m left g (Offering.not_observable so li wide never) = turned trace s b output left 6 g (TurnedBack.not_observable wide never)
  one trace s b output r m left g (Offering.incompatible so li wide ob none) =
      turned trace s b output left 7 g (TurnedBack.incompatible wide ob (none notion trace (held notion t h f trace s g)))
  one trace s b output r m left g (Offering.accepted {r = c} so li wide ob same after bal front rest within exact) =
      let x = exact notion trace (held notion t h f trace s g) in
      record {
        judged = (record { room = wide; observable = ob; possible = x.possible }, right_size (automaton_of t h) _ c.size within x.size);
        after = after_held notion t h f (trace ++ b ∷ []) m (same ∙ g.same) x.grown;
        passes = passes_accepted (SafeForAll notion (automaton_of t h) (secrets_of h f)) trace s.count s.pending s.waits b c output left m.count
            g.grown.queue bal front;
      }

  promise : (s : Enforcer) (os : List Offer) (e : Enforcer) → AfterBy [] s → Offers t h s os e → EnforcerPromise notion t h f os e
  promise s os e g offers =
      let p = automaton_of t h in
      let cs = secrets_of h f in
      let y = kept Enforcer (Offered t h) pending_count AfterBy Table (λ trace s o m g out. one trace s o.byte o.output o.says m o.left g out)
      (look_back_of h f) (SafeForAll notion p cs) (safe_for_all_laws notion p cs) (λ trace s g. g.grown.queue.few)
      (λ trace s g. g.grown.queue.longest) s os e g offers in
      let k = y.2 in
      let front = take (released_count os) (accepted_of os) in
      let short : length front ≤ length (accepted_of os) = omega (arith, k.within, length-take-le (released_count os) (accepted_of os) k.within) in
      record {
        accepted = y.0;
        prefix = k.prefix;
        safe = rw k.prefix k.safe;
        by_runs = rw k.prefix (all_by_runs notion p cs front (length (accepted_of os)) short k.safe);
        longest = k.longest;
        unsafe = λ r more within.
            some_unsafe notion p cs (take r (accepted_of os)) (length (accepted_of os)) (omega (arith, length-take-le r (accepted_of os) within))
            (k.longest r more within);
        in_time = k.in_time;
        balance = k.balance;
        same = y.1.same;
        grown = held notion t h f (accepted_of os) e y.1;
      }

-- the mission's third point: an enforcer that a start has handed back, under either notion, and any list of offers to it
pub third_point : (notion : Notion) (t : List ℕ) (h : Header) (f : Further) (s : Enforcer) (os : List Offer) (e : Enforcer)
    → Starting t h f notion started s → Offers t h s os e → EnforcerPromise notion t h f os e
third_point notion t h f s os e start offers =
    let x = started_after notion t h f s start in
    promise notion t h f x.0 s os e x.1 offers

-- enforcers started under one notion with the same further secrets (whatever stands past their count) that have accepted the same events are equal,
-- whatever was refused between them
pub same_history : (notion : Notion) (t : List ℕ) (h : Header) (f f' : Further) (s s' : Enforcer) (os os' : List Offer) (e e' : Enforcer)
    → cleared_of f ≡ cleared_of f'
    → Starting t h f notion started s → Offers t h s os e → Starting t h f' notion started s' → Offers t h s' os' e' → accepted_of os ≡ accepted_of os' → e ≡ e'
same_history notion t h f f' s s' os os' e e' given start offers start' offers' same =
    let x = third_point notion t h f s os e start offers in
    let x' = third_point notion t h f' s' os' e' start' offers' in
    let both : e.estimator.further ≡ e'.estimator.further = x.same ∙ given ∙ sym x'.same in
    grown_unique notion (automaton_of t h) (secrets_of h e.estimator.further) (accepted_of os) e e' both x.grown
    (subst (λ (y : Further). Grown notion (automaton_of t h) (secrets_of h y) (accepted_of os) e') (sym both)
    (subst (λ (l : List ℕ). GrownOn notion t h l e') (sym same) x'.grown))
