-- What was followed after one byte more, after some bytes and then others, and read after read. Assumes nothing.
use Rattle.std.specs.Prelude.{Err, Ok, Result}
use mathlib.Core.Path.{◌≡◌, refl, ap, sym, subst, ◌∙◌}
use mathlib.Core.Bool.{Bool, false}
use mathlib.Core.List.{List, [], ◌∷◌, ◌++◌, append_assoc, append-nil}
use mathlib.Core.Logic.{inl, inr}
use Prim.Native.Nat.{ℕ, suc, ◌+◌, ◌≤◌, ◌<◌}
use native.Mathlib.Omega.{arith}
use lib.ListN.{length, get_or, take, length-append}
use lib.Seq.{take-length, take-suc, length-take-le}
use Rattle.automaton.specs.Run.{automaton_of, WellFormed}
use Rattle.automaton.specs.declared.Header.{Header}
use Rattle.refusal.specs.Refusals.{number_of}
use Rattle.refusal.specs.declared.Refusal.{Refusal}
use Rattle.opacity.specs.Secrets.{no_further}
use Rattle.opacity.specs.declared.Notion.{Notion}
use Rattle.verifier.specs.Estimators.{GrownOn}
use Rattle.verifier.specs.Calls.{Answered}
use Rattle.verifier.specs.declared.Estimator.{Estimator}
use Rattle.verifier.specs.Replies.{refused, verdicts, Accepting, not_observable, incompatible}
use Rattle.verifier.specs.Replies.{findings_by, said_by, refused-by, verdicts_by, AcceptingBy, turned_back, accepted_by}
use Rattle.verifier.proofs.Growing.{grown_limits}
use Rattle.leaks.specs.FirstLeaks.{AcceptedPart}
use Rattle.leaks.proofs.Parts.{part_one, part_append, right_exists}
use Rattle.streams.specs.declared.Rest.{Rest}
use Rattle.streams.specs.Following.{Feeding, stopped, ended, failed, more}
use Rattle.witness_log.specs.Following.{After, On}
use Rattle.witness_log.specs.declared.Followed.{Followed}
use Rattle.verifier.specs.declared.Judgement.{Judgement}
use Rattle.opacity.specs.declared.Verdict.{Verdict}

module _ (t : List ℕ) (h : Header) where
  -- no byte more
  pub on_start : (s : Followed) → On t h s [] s
  on_start s = record { few = omega arith; exact = λ sound before x. subst (λ (l : List ℕ). After t h l s) (sym (append-nil before)) x }

  -- some bytes and then others
  pub on_then : (s m e : Followed) (a b : List ℕ) → On t h s a m → On t h m b e → On t h s (a ++ b) e
  on_then s m e a b u v = record {
    few = omega (arith, u.few, v.few, length-append a b);
    exact = λ sound before x. subst (λ (l : List ℕ). After t h l e) (append_assoc before a b) (v.exact sound (before ++ a) (u.exact sound before x));
  }

  -- ---- one byte

  refused_answer : (trace : List ℕ) (s : Estimator) (b n : ℕ) (m : Estimator) → WellFormed t h → GrownOn t h trace s
      → Accepting t h s b (refused n) m → Answered t h no_further trace b (refused n)
  refused_answer trace s b n m sound g (Accepting.malformed bad) =
      absurd (bad (sound, grown_limits (automaton_of t h) _ trace s g sound.symbols_small))
  refused_answer trace s b n m sound g (not_observable so li never) = inl (refl, never)
  refused_answer trace s b n m sound g (incompatible so li ob impossible) = inr (refl, ob, impossible trace g)

  module _ (s : Followed) (b : ℕ) {notion : Notion} (a : Result (Judgement Verdict) Refusal) (m : Estimator)
      (x : AcceptingBy notion t h s.estimator b (said_by s.estimator.further a) m) where
    -- one that is refused is passed over
    pub step_refused : (r : Refusal) → a ≡ Err r → On t h s (b ∷ []) s
    step_refused r is = go (subst (λ (y : Result (Judgement Verdict) Refusal). AcceptingBy notion t h s.estimator b (said_by s.estimator.further y) m) is x)
      where
        go : AcceptingBy notion t h s.estimator b (refused-by (number_of r)) m → On t h s (b ∷ []) s
        go (turned_back y) = record {
          few = omega arith;
          exact = λ sound before g. record {
            trace = g.trace;
            part = subst (AcceptedPart t h no_further [] (before ++ b ∷ [])) (append-nil g.trace)
                (part_append t h no_further [] before (b ∷ []) g.trace [] g.part
                (part_one t h no_further g.trace b (refused (number_of r)) (refused_answer g.trace _ b (number_of r) m sound g.grown y)));
            grown = g.grown;
            counted = g.counted;
            alone = g.alone;
          };
        }

    -- one that is accepted is counted
    pub step_accepted : (j : Judgement Verdict) → a ≡ Ok j → On t h s (b ∷ []) (record { estimator = m; accepted = s.accepted + 1 })
    step_accepted j is = go (subst (λ (y : Result (Judgement Verdict) Refusal). AcceptingBy notion t h s.estimator b (said_by s.estimator.further y) m) is x)
      where
        go : AcceptingBy notion t h s.estimator b (verdicts_by (findings_by s.estimator.further j)) m
            → On t h s (b ∷ []) (record { estimator = m; accepted = s.accepted + 1 })
        go (accepted_by moved as_many tells) = record {
          few = omega arith;
          exact = λ sound before g.
              let can = (moved.grown g.trace g.grown).possible in
              let right = right_exists t h no_further sound (g.trace ++ b ∷ []) can in
              record {
                trace = g.trace ++ b ∷ [];
                part = part_append t h no_further [] before (b ∷ []) g.trace (b ∷ []) g.part
                    (part_one t h no_further g.trace b (verdicts right.0) (moved.observable, can, right.1));
                grown = moved.grown g.trace g.grown;
                counted = ap (λ (n : ℕ). n + 1) g.counted ∙ sym (length-append g.trace (b ∷ []));
                alone = moved.same ∙ g.alone;
              };
        }

  -- ---- a block, byte after byte

  -- so far: after the first i bytes of a block
  pub record Along (self : Followed) (bytes : List ℕ) (now : Followed) (i : ℕ) : Type 0 where
    pub among : i ≤ length bytes
    pub on : On t h self (take i bytes) now

  module _ (self : Followed) (bytes : List ℕ) where
    pub along_start : Along self bytes self 0
    along_start = record { among = omega arith; on = on_start self }

    -- one more byte can be counted
    pub along_few : (now : Followed) (i : ℕ) → Along self bytes now i → i < length bytes → self.accepted + length bytes ≤ 4294967295
        → now.accepted + 1 ≤ 4294967295
    along_few now i a less few = omega (arith, a.on.few, length-take-le i bytes a.among)

    pub along_next : (now : Followed) (i : ℕ) (next : Followed) → Along self bytes now i → i < length bytes → On t h now (get_or bytes i 0 ∷ []) next
        → Along self bytes next (i + 1)
    along_next now i next a less step = record {
      among = omega arith;
      on = subst (λ (l : List ℕ). On t h self l next)
          (sym (take-suc bytes i 0 less) ∙ ap (λ (n : ℕ). take n bytes) (let e : suc i ≡ i + 1 = omega arith in e))
          (on_then self now next (take i bytes) (get_or bytes i 0 ∷ []) a.on step);
    }

    pub along_end : (now : Followed) (i : ℕ) → Along self bytes now i → length bytes ≤ i → On t h self bytes now
    along_end now i a all =
        let e : i ≡ length bytes = omega (arith, a.among) in
        subst (λ (l : List ℕ). On t h self l now) (ap (λ (n : ℕ). take n bytes) e ∙ take-length bytes) a.on

  -- ---- reads

  abbrev pub never : Followed → Bool
  never f = false

  -- ALL THAT WAS READ IS FOLLOWED, IN ORDER
  pub feeding_on : {left : ℕ} {s : Followed} {bytes : List ℕ} {r : Rest Followed} → Feeding (On t h) never left s bytes r → On t h s bytes r.follower
  feeding_on {s = s} (stopped e) = on_start s
  feeding_on {s = s} (ended e) = on_start s
  feeding_on {s = s} (failed e) = on_start s
  feeding_on {s = s} {r = r} (more {n = n} {m = m} input {later = later} e some there fits x y) =
      on_then s m r.follower (take n input) later x (feeding_on y)
