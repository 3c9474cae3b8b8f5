-- What a log prints is what the definitions say. Assumes nothing.
use mathlib.Core.Path.{◌≡◌, refl, sym, ap, subst, ◌∙◌}
use mathlib.Core.List.{List, [], ◌∷◌, ◌++◌}
use Prim.Native.Nat.{ℕ, ◌+◌, ◌-◌}
use native.Mathlib.Omega.{arith}
use lib.ListN.{length, take, drop, length-append}
use Rattle.lists.specs.Calls.{Chain, done, next}
use Rattle.automaton.specs.Run.{automaton_of, WellFormed, Observable, Possible}
use Rattle.automaton.specs.declared.Header.{Header}
use Rattle.refusal.specs.declared.Refusal.{Refusal}
use Rattle.refusal.specs.declared.Refusal.TheVariants.{NotObservable, Incompatible}
use Rattle.refusal.specs.Refusals.{number_of}
use Rattle.opacity.specs.declared.Notion.TheVariants.{Weak}
use Rattle.verifier.specs.declared.Estimator.{Estimator}
use Rattle.opacity.specs.Secrets.{no_further, secrets_of}
use Rattle.verifier.specs.Estimators as estimators
use Rattle.verifier.specs.Replies as verifier
use Rattle.verifier.specs.Replies.{Findings, findings, Accepting}
use Rattle.verifier.proofs.SecondPoint.{right}
use Rattle.verifier.proofs.Growing.{grown_limits}
use Rattle.decoding.proofs.Listing.{decoded_well_formed}
use Rattle.enforcer.specs.declared.Release.{Release}
use Rattle.enforcer.specs.declared.Enforcer.{Enforcer}
use Rattle.enforcer.specs.Offerings as enforcer
use Rattle.enforcer.specs.Offerings.{Offering}
use Rattle.enforcer.specs.Queues.{Longest}
use Rattle.enforcer.specs.SafePrefix.{SafeForAll}
use Rattle.enforcer.proofs.ForAll.{only_longest}
use Rattle.enforcer.proofs.ThirdPoint as third
use Rattle.report.specs.Text.{decimal, line, accepted_line, refused_line}
use Rattle.monitor.specs.Stepping.{offered_once, accepted_once, Stepping, not_verified, not_enforced, accepted, Event, Followed, bytes_of, lines_of, Lines}
use Rattle.monitor.specs.Opening.{started, encoding_of, RightOwn, Opening, opened}
use Rattle.monitor.specs.LogText as log
use Rattle.monitor.specs.LogText.{Released, Prints, MonitorPromise}
use Rattle.monitor.specs.declared.Monitor.{Monitor}
use Rattle.monitor.proofs.Openings.{right_own}
use Rattle.verifier.specs.declared.Judgement.{Judgement}
use Rattle.opacity.specs.declared.Verdicts.{Verdicts}

-- a refused event's line depends on the number alone
refused_as : (b : ℕ) (r q : Refusal) → number_of q ≡ number_of r → refused_line b r ≡ refused_line b q
refused_as b r q e = ap (λ (n : ℕ). line ((33 ∷ []) ∷ decimal b ∷ decimal n ∷ [])) (sym e)

module _ (t : List ℕ) (h : Header) (well_formed : WellFormed t h) where
  -- a monitor after the accepted events, of which r are released
  record After (trace : List ℕ) (r : ℕ) (m : Monitor) : Type 0 where
    estimator : estimators.GrownOn t h trace m.estimator
    enforcer : third.After Weak t h no_further trace m.enforcer
    accepted : m.accepted ≡ length trace
    released : m.released ≡ r
    pending : r + m.enforcer.count ≡ length trace

  after_refused : (trace : List ℕ) (r : ℕ) (m : Monitor) → After trace r m → After trace r (offered_once m)
  after_refused trace r m a = record { estimator = a.estimator; enforcer = a.enforcer; accepted = a.accepted; released = a.released; pending = a.pending }

  -- the verifier refuses with 6 or 7, on their conditions
  by_verifier : (trace : List ℕ) (r : ℕ) (m : Monitor) (b : ℕ) (q : Refusal) (n : ℕ) (s : Estimator) (bytes rest after : List ℕ) (r' : ℕ) → After trace r m
      → number_of q ≡ n → Accepting t h m.estimator b (verifier.refused n) s → Prints t h trace r bytes rest after r'
      → Prints t h trace r (b ∷ bytes) (refused_line b q ++ rest) after r'
  by_verifier trace r m b q n s bytes rest after r' a e (Accepting.malformed bad) p = absurd
      (bad (well_formed, grown_limits (automaton_of t h) _ trace m.estimator a.estimator well_formed.symbols_small))
  by_verifier trace r m b q n s bytes rest after r' a e (Accepting.not_observable so li never) p =
      subst (λ (l : List ℕ). Prints t h trace r (b ∷ bytes) (l ++ rest) after r') (sym (refused_as b q NotObservable (sym e))) (log.not_observable never p)
  by_verifier trace r m b q n s bytes rest after r' a e (Accepting.incompatible so li ob impossible) p =
      subst (λ (l : List ℕ). Prints t h trace r (b ∷ bytes) (l ++ rest) after r') (sym (refused_as b q Incompatible (sym e)))
      (log.incompatible ob (impossible trace a.estimator) p)

  -- the enforcer refuses nothing that the verifier accepts
  agree : (trace : List ℕ) (r : ℕ) (m : Monitor) (b n : ℕ) (j : Findings) (s : Estimator) (output left : List ℕ) (e : Enforcer) → After trace r m
      → Accepting t h m.estimator b (verifier.verdicts j) s → length output ≡ 17 → Offering t h m.enforcer b output (enforcer.refused n) e left → ⊥
  agree trace r m b n j s output left e a acc wide (Offering.malformed bad) =
      bad (well_formed, (third.held Weak t h no_further trace m.enforcer a.enforcer).limits)
  agree trace r m b n j s output left e a acc wide (Offering.output_too_small so li small) = omega arith
  agree trace r m b n j s output left e a (Accepting.accepted so li ob same ls many bounded size exact) wide (Offering.not_observable so' li' enough never) =
      never ob
  agree trace r m b n j s output left e a (Accepting.accepted so li ob same ls many bounded size exact) wide
      (Offering.incompatible so' li' enough ob' impossible) =
      let x = exact trace a.estimator in
      let p = x.grown.possible in
      impossible Weak trace (third.held Weak t h no_further trace m.enforcer a.enforcer) p.run p.compatible

  -- an event that both accept
  record Accepted (trace : List ℕ) (r : ℕ) (m : Monitor) (b : ℕ) (j : Judgement Verdicts) (s : Estimator) (f : ℕ) (e : Enforcer) (left : List ℕ) : Type 0 where
    observable : Observable h b
    possible : Possible (automaton_of t h) (trace ++ b ∷ [])
    told : RightOwn t h (trace ++ b ∷ []) j.verdicts.own j.size
    longest : Released t h (trace ++ b ∷ []) (r + f)
    piece : take f left ≡ take f (drop r (trace ++ b ∷ []))
    then : After (trace ++ b ∷ []) (r + f) (accepted_once m s e f)

  by_both : (trace : List ℕ) (r : ℕ) (m : Monitor) (b : ℕ) (j : Judgement Verdicts) (s : Estimator) (q : Release) (e : Enforcer) (output left : List ℕ) → After trace r m
      → Accepting t h m.estimator b (verifier.verdicts (findings m.estimator.further j)) s
      → Offering t h m.enforcer b output (enforcer.released q) e left → Accepted trace r m b j s q.count e left
  by_both trace r m b j s q e output left a (Accepting.accepted so li ob same ls many bounded size exact) off =
      let f = q.count in
      let x = exact trace a.estimator in
      let y = third.one Weak t h no_further well_formed trace m.enforcer b output (enforcer.released q) e left a.enforcer off in
      let len : length (trace ++ b ∷ []) ≡ length trace + 1 = length-append trace (b ∷ []) in
      let here : length trace - m.enforcer.count ≡ r = omega (arith, a.pending) in
      let there : length (trace ++ b ∷ []) - e.count ≡ r + f = omega (arith, a.pending, y.passes.shifted) in
      record {
        observable = ob;
        possible = x.possible;
        told = right_own t h m.estimator.further (trace ++ b ∷ []) j
            (right t h m.estimator.further (trace ++ b ∷ []) (findings m.estimator.further j) s many size x);
        longest = only_longest Weak (automaton_of t h) h no_further (trace ++ b ∷ []) (r + f) refl
            (subst (Longest (SafeForAll Weak (automaton_of t h) (secrets_of h no_further)) (trace ++ b ∷ [])) there y.after.grown.queue.longest);
        piece = y.passes.piece ∙ ap (λ (k : ℕ). take f (drop k (trace ++ b ∷ []))) here;
        then = record {
          estimator = x.grown;
          enforcer = y.after;
          accepted = omega (arith, a.accepted);
          released = omega (arith, a.released);
          pending = omega (arith, there, y.passes.few);
        };
      }

  print_accepted : (trace : List ℕ) (r : ℕ) (m : Monitor) (b : ℕ) (j : Judgement Verdicts) (s : Estimator) (f : ℕ) (e : Enforcer) (left bytes rest after : List ℕ)
      (r' : ℕ) → After trace r m
      → Accepted trace r m b j s f e left → Prints t h (trace ++ b ∷ []) (r + f) bytes rest after r'
      → Prints t h trace r (b ∷ bytes) (accepted_line (m.accepted + 1) b j.verdicts.own.weak j.verdicts.own.strong j.size
      (take f left) ++ rest) after r'
  print_accepted trace r m b j s f e left bytes rest after r' a x p =
      subst (λ (l : List ℕ). Prints t h trace r (b ∷ bytes) (accepted_line (m.accepted + 1) b j.verdicts.own.weak j.verdicts.own.strong
      j.size l ++ rest) after r') (sym x.piece)
      (subst (λ (k : ℕ). Prints t h trace r (b ∷ bytes) (accepted_line (k + 1) b j.verdicts.own.weak j.verdicts.own.strong j.size
      (take f (drop r (trace ++ b ∷ []))) ++ rest) after r') (sym a.accepted)
      (log.accepted j.verdicts.own j.size f x.observable x.possible x.told x.longest p))

  -- all event bytes
  record Ended (trace : List ℕ) (r : ℕ) (bytes text : List ℕ) (e : Monitor) : Type 0 where
    after : List ℕ
    prints : Prints t h trace r bytes text after e.released
    accepted : e.accepted ≡ length after
    pending : e.released + e.enforcer.count ≡ length after

  -- one event byte, with what the ones after it print
  one : (trace : List ℕ) (r : ℕ) (m n : Monitor) (b : ℕ) (line : List ℕ) (bytes text : List ℕ) (e : Monitor) → After trace r m → Stepping t h m b line n
      → ((later : List ℕ) (s : ℕ) → After later s n → Ended later s bytes text e) → Ended trace r (b ∷ bytes) (line ++ text) e
  one trace r m n b line bytes text e a (not_verified q {s = s} acc) rest =
      let y = rest trace r (after_refused trace r m a) in
      record {
        after = y.after;
        prints = by_verifier trace r m b q (number_of q) s bytes text y.after e.released a refl acc y.prints;
        accepted = y.accepted;
        pending = y.pending;
      }
  one trace r m n b line bytes text e a (not_enforced q {j = j} {s = s} {e = e'} {output = output} {left = left} acc wide off) rest =
      absurd (agree trace r m b (number_of q) j s output left e' a acc wide off)
  one trace r m n b line bytes text e a (accepted j {s = s} {r = f} {e = e'} {output = output} {left = left} acc wide off) rest =
      let x = by_both trace r m b j s f e' output left a acc off in
      let y = rest (trace ++ b ∷ []) (r + f.count) x.then in
      record {
        after = y.after;
        prints = print_accepted trace r m b j s f.count e' left bytes text y.after e.released a x y.prints;
        accepted = y.accepted;
        pending = y.pending;
      }

  follow : (trace : List ℕ) (r : ℕ) (m : Monitor) (vs : List Event) (e : Monitor) → After trace r m → Chain (Followed t h) m vs e
      → Ended trace r (bytes_of vs) (lines_of vs) e
  follow trace r m vs e a done = record {
    after = trace;
    prints = subst (λ (k : ℕ). Prints t h trace r [] [] trace k) (sym a.released) log.none;
    accepted = a.accepted;
    pending = ap (λ (k : ℕ). k + m.enforcer.count) a.released ∙ a.pending;
  }
  follow trace r m vs e a (next {m = n} {c = v} {cs = rest} s ls) =
      one trace r m n v.byte v.line (bytes_of rest) (lines_of rest) e a s (λ later k g. follow later k n rest e g ls)

-- a log that has started prints what the definitions say, however its bytes were cut into reads (Following, lines_append)
pub log_promise : (log : List ℕ) (n : ℕ) (t : List ℕ) (h : Header) (m : Monitor) (bytes text : List ℕ) (e : Monitor) → Opening log (started n) t h m
    → Lines t h m bytes text e
    → MonitorPromise t h bytes text e
log_promise log n t h m bytes text e (opened within d fresh) ls =
    let well_formed = decoded_well_formed (encoding_of log) d.before h t d.decoding in
    let few = fresh.enforcer.queue.few in
    let a : After t h well_formed [] 0 m = record {
      estimator = fresh.estimator;
      enforcer = third.after_held Weak t h no_further [] m.enforcer fresh.enforcer_alone fresh.enforcer;
      accepted = fresh.accepted;
      released = fresh.released;
      pending = omega arith;
    } in
    let y = follow t h well_formed [] 0 m ls.events e a ls.steps in
    record { trace = y.after; prints = rw (ls.bytes_are, ls.text_is) at y.prints; accepted = y.accepted; pending = y.pending }
