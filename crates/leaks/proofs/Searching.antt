-- A search after one byte more, after one block and then another, and after the leak is found. Assumes nothing.
use Rattle.std.specs.Prelude.{Err, Ok, Result}
use mathlib.Core.Path.{◌≡◌, refl, ap, sym, subst, ◌∙◌}
use mathlib.Core.Bool.{Bool, true, false}
use mathlib.Core.List.{List, [], ◌∷◌, ◌++◌, append_assoc, append-nil}
use mathlib.Core.Logic.{◌⊎◌, inl, inr}
use Prim.Native.Nat.{ℕ, suc, ◌+◌, ◌≤◌, ◌<◌}
use native.Mathlib.Omega.{arith}
use native.Mathlib.Decide.{dec_lt}
use lib.ListN.{length, get_or, take, drop, length-append, take-append-drop}
use lib.Seq.{take-length, take-suc}
use Rattle.stateset.specs.Set.{Decided}
use Rattle.stateset.proofs.Decides.{holds, fails}
use Rattle.lists.proofs.Chains.{every_split}
use Rattle.verifier.proofs.Judging.{not_both}
use Rattle.automaton.specs.Run.{Automaton, automaton_of, Observable, WellFormed}
use Rattle.automaton.specs.declared.Header.{Header}
use Rattle.opacity.specs.declared.Notion.{Notion}
use Rattle.opacity.specs.declared.Secret.{Secret}
use Rattle.opacity.specs.declared.Further.{Further}
use Rattle.opacity.specs.declared.Verdict.TheVariants as verdict
use Rattle.opacity.specs.Secrets.{secrets_of, secret_at, ForEach}
use Rattle.opacity.specs.Verdicts.{none, steps_of, Tells, IsVerdict}
use Rattle.opacity.proofs.Numbering.{how_many, same_secrets}
use Rattle.verifier.specs.declared.Estimator.{Estimator}
use Rattle.verifier.specs.Estimators.{InLimits, GrownOn}
use Rattle.refusal.specs.Refusals.{number_of}
use Rattle.refusal.specs.declared.Refusal.{Refusal}
use Rattle.verifier.specs.Replies.{numbered_by, steps_each, refused, verdicts, Accepting, not_observable, incompatible, Moved, TellsBy}
use Rattle.verifier.specs.Replies.{findings_by, said_by, OthersBy, refused-by, verdicts_by, AcceptingBy, turned_back, accepted_by}
use Rattle.verifier.specs.Calls.{Answered}
use Rattle.leaks.specs.declared.Search.{Search}
use Rattle.leaks.specs.FirstLeaks.{AcceptedPart, SomeLeak, FirstLeak}
use Rattle.leaks.specs.Searches.{NotFound, Searched, Within, SearchedOn, said_of, Advancing}
use Rattle.leaks.specs.Inner.{LeakAmong}
use Rattle.leaks.proofs.Parts.{part_one, part_append, right_exists}
use Rattle.leaks.proofs.Leaking.{leak_not_none, none_is_none, leak_among, steps_at, some_leak, none_leak, none_kept, take_whole, none_more, first_kept}
use Rattle.verifier.specs.declared.EachSecret.{EachSecret}
use Rattle.verifier.specs.declared.Judgement.{Judgement}
use Rattle.opacity.specs.declared.Verdict.{Verdict}

-- a search that has found no leak has not found one
pub absent : {A : Type 0} {b : Bool} → b ≡ false → b ≡ true → A
absent {b = b} f t = absurd (not_both b t f)

module _ (t : List ℕ) (h : Header) where
  abbrev p : Automaton
  p = automaton_of t h

  -- ---- blocks

  -- no byte more
  pub on_start : (s : Search) → InLimits h s.estimator → (s.found ≡ true → 1 ≤ s.accepted) → SearchedOn t h s [] s
  on_start s limits placed =
      record {
        by = refl;
        same = refl;
        limits = limits;
        placed = placed;
        unobserved = λ e. refl;
        fewest = omega arith;
        most = omega arith;
        stays = λ e. refl;
        exact = λ notion f before x. subst (λ (l : List ℕ). Searched notion t h f l s) (sym (append-nil before)) x;
      }

  -- one block and then another
  pub on_then : (s m e : Search) (a b : List ℕ) → SearchedOn t h s a m → SearchedOn t h m b e → SearchedOn t h s (a ++ b) e
  on_then s m e a b u v =
      record {
        by = v.by ∙ u.by;
        same = v.same ∙ u.same;
        limits = v.limits;
        placed = v.placed;
        unobserved = λ x. let y = every_split (λ (b : ℕ). Observable h b → ⊥) a b x in v.unobserved y.1 ∙ u.unobserved y.0;
        fewest = omega (arith, u.fewest, v.fewest);
        most = omega (arith, u.most, v.most, length-append a b);
        stays = λ x. let i : m ≡ s = u.stays x in v.stays (ap (λ (y : Search). y.found) i ∙ x) ∙ i;
        exact = λ notion f before x.
            subst (λ (l : List ℕ). Searched notion t h f l e) (append_assoc before a b) (v.exact notion f (before ++ a) (u.exact notion f before x));
      }

  -- once the leak is found, whatever is offered
  pub on_found : WellFormed t h → (s : Search) → InLimits h s.estimator → (s.found ≡ true → 1 ≤ s.accepted) → s.found ≡ true → (bytes : List ℕ)
      → SearchedOn t h s bytes s
  on_found well_formed s limits placed is bytes =
      record {
        by = refl;
        same = refl;
        limits = limits;
        placed = placed;
        unobserved = λ e. refl;
        fewest = omega arith;
        most = omega arith;
        stays = λ e. refl;
        exact = λ notion f before x. record {
          by = x.by;
          same = x.same;
          not_found = λ e. absent e is;
          found = λ e. first_kept notion t h f well_formed before bytes s.accepted (x.found e);
        };
      }

  -- ---- one byte

  refused_answer : (f : Further) (trace : List ℕ) (s : Estimator) (b n : ℕ) (m : Estimator) → WellFormed t h → InLimits h s → GrownOn t h trace s
      → Accepting t h s b (refused n) m → Answered t h f trace b (refused n)
  refused_answer f trace s b n m well_formed limits g (Accepting.malformed bad) = absurd (bad (well_formed, limits))
  refused_answer f trace s b n m well_formed limits g (not_observable so li never) = inl (refl, never)
  refused_answer f trace s b n m well_formed limits g (incompatible so li ob impossible) = inr (refl, ob, impossible trace g)

  module _ (self : Search) (b : ℕ) (within : Within t h self 1) (searching : self.found ≡ false) where
    -- one that is refused is passed over
    pub passed_over : (n : ℕ) (m : Estimator) → Accepting t h self.estimator b (refused n) m → SearchedOn t h self (b ∷ []) self
    passed_over n m r =
        record {
          by = refl;
          same = refl;
          limits = within.limits;
          placed = within.placed;
          unobserved = λ e. refl;
          fewest = omega arith;
          most = omega arith;
          stays = λ e. refl;
          exact = λ notion f before x. record {
            by = x.by;
            same = x.same;
            not_found = λ e. on notion f before (x.not_found e);
            found = λ e. absent searching e;
          };
        }
      where
        on : (notion : Notion) (f : Further) (before : List ℕ) → NotFound notion t h f before self → NotFound notion t h f (before ++ b ∷ []) self
        on notion f before g =
            record {
              trace = g.trace;
              part = subst (AcceptedPart t h f [] (before ++ b ∷ [])) (append-nil g.trace)
                  (part_append t h f [] before (b ∷ []) g.trace [] g.part
                  (part_one t h f g.trace b (refused n) (refused_answer f g.trace _ b n m within.well_formed within.limits g.grown r)));
              grown = g.grown;
              counted = g.counted;
              none_leaks = g.none_leaks;
            }

    -- one that is accepted is counted, and it is the first leak or none
    module _ (m : Estimator) (size : ℕ) (v : EachSecret Verdict) (r : Bool) (moved : Moved t h self.estimator b size m)
        (tells : ForEach (secrets_of h self.estimator.further)
        (λ i c. TellsBy self.notion t h self.estimator b c (get_or (steps_each self.estimator.further v) i none)))
        (others : (i : ℕ) → self.estimator.further.count < i → get_or (numbered_by v) i verdict.NoLeak ≡ verdict.NoLeak)
        (leaks : Decided r (LeakAmong v)) where
      abbrev after : Search
      after = record { estimator = m; notion = self.notion; accepted = self.accepted + 1; found = r }

      abbrev given : Further
      given = self.estimator.further

      many : length (secrets_of h given) ≡ suc given.count
      many = how_many h given within.limits.allowed.few

      module _ (notion : Notion) (f : Further) (before : List ℕ) (x : Searched notion t h f before self) where
        g : NotFound notion t h f before self
        g = x.not_found searching

        abbrev trace : List ℕ
        trace = g.trace ++ b ∷ []

        secrets : secrets_of h given ≡ secrets_of h f
        secrets = ap (secrets_of h) x.same ∙ same_secrets h f

        part : AcceptedPart t h f [] (before ++ b ∷ []) trace
        part =
            let can = (moved.grown g.trace g.grown).possible in
            let right = right_exists t h f within.well_formed trace can in
            part_append t h f [] before (b ∷ []) g.trace (b ∷ []) g.part
            (part_one t h f g.trace b (verdicts right.0) (moved.observable, can, right.1))

        told : ForEach (secrets_of h given) (λ i c. Tells notion p c trace (steps_of (get_or (numbered_by v) i verdict.NoLeak)))
        told i few =
            let y : Tells self.notion p (secret_at (secrets_of h given) i) trace (get_or (steps_each given v) i none) =
            (tells i few).tells g.trace g.grown in
            subst (λ (n : Notion). Tells n p (secret_at (secrets_of h given) i) trace (steps_of (get_or (numbered_by v) i verdict.NoLeak))) x.by
            (rw (steps_at given v i (omega (arith, many, few))) at y)

        leaking : LeakAmong v → SomeLeak notion p (secrets_of h f) trace
        leaking y =
            subst (λ (cs : List Secret). SomeLeak notion p cs trace) secrets
            (some_leak notion p _ trace (λ i. get_or (numbered_by v) i verdict.NoLeak) told y.number y.steps (go (dec_lt given.count y.number)) y.is)
          where
            go : Dec (given.count < y.number) → y.number < length (secrets_of h given)
            go (yes d) = absurd (leak_not_none y.is (others y.number d))
            go (no d) = omega (arith, many)

        not_leaking : (LeakAmong v → ⊥) → ForEach (secrets_of h f) (λ i c. IsVerdict notion p c trace none)
        not_leaking never =
            subst (λ (cs : List Secret). ForEach cs (λ i c. IsVerdict notion p c trace none)) secrets
            (none_leak notion p (secrets_of h given) trace (λ i. get_or (numbered_by v) i verdict.NoLeak) told
            (λ i. none_is_none _ (λ some. never (leak_among v i some))))

        on_exact : Searched notion t h f (before ++ b ∷ []) after
        on_exact = record {
          by = x.by;
          same = moved.same ∙ x.same;
          not_found = λ e. record {
            trace = trace;
            part = part;
            grown = moved.grown g.trace g.grown;
            counted = ap (λ (n : ℕ). n + 1) g.counted ∙ sym (length-append g.trace (b ∷ []));
            none_leaks = none_more notion p (secrets_of h f) g.trace b g.none_leaks (not_leaking (fails r e leaks));
          };
          found = λ e.
              subst (FirstLeak notion t h f (before ++ b ∷ [])) (ap (λ (n : ℕ). n + 1) (sym g.counted))
              (record {
                trace = trace;
                part = part;
                counted = omega arith;
                among = omega (arith, length-append g.trace (b ∷ []));
                leaks = rw (take_whole g.trace b) (leaking (holds r e leaks));
                first = none_kept notion p (secrets_of h f) g.trace (b ∷ []) (length g.trace + 1) (omega arith) g.none_leaks;
              });
        }

      pub counted_on : SearchedOn t h self (b ∷ []) after
      counted_on =
          record {
            by = refl;
            same = moved.same;
            limits = moved.limits_after;
            placed = λ e. omega arith;
            unobserved = λ e. absurd (e.0 moved.observable);
            fewest = omega arith;
            most = omega arith;
            stays = λ e. absent searching e;
            exact = on_exact;
          }

  -- so by what the estimator answers
  module _ (self : Search) (b : ℕ) (within : Within t h self 1) (searching : self.found ≡ false) where
    pub step_refused : {notion : Notion} (a : Result (Judgement Verdict) Refusal) (r : Refusal) (m : Estimator) → a ≡ Err r
        → AcceptingBy notion t h self.estimator b (said_by self.estimator.further a) m → SearchedOn t h self (b ∷ []) self
    step_refused {notion} a r m is x =
        go (subst (λ (y : Result (Judgement Verdict) Refusal). AcceptingBy notion t h self.estimator b (said_by self.estimator.further y) m) is x)
      where
        go : AcceptingBy notion t h self.estimator b (refused-by (number_of r)) m → SearchedOn t h self (b ∷ []) self
        go (turned_back y) = passed_over self b within searching (number_of r) m y

    pub step_accepted : (j : Judgement Verdict) (m : Estimator) (r : Bool)
        → AcceptingBy self.notion t h self.estimator b (verdicts_by (findings_by self.estimator.further j)) m
        → OthersBy self.estimator.further (Ok j) → Decided r (LeakAmong j.verdicts)
        → SearchedOn t h self (b ∷ []) (record { estimator = m; notion = self.notion; accepted = self.accepted + 1; found = r })
    step_accepted j m r (accepted_by moved as_many tells) others leaks =
        counted_on self b within searching m j.size j.verdicts r moved tells others leaks

-- ---- a block, byte after byte

-- so far: the search after the first i bytes of a block
pub record Along (t : List ℕ) (h : Header) (self : Search) (bytes : List ℕ) (now : Search) (i : ℕ) : Type 0 where
  pub within : Within t h self (length bytes)
  pub among : i ≤ length bytes
  pub on : SearchedOn t h self (take i bytes) now

module _ (t : List ℕ) (h : Header) (self : Search) (bytes : List ℕ) where
  pub along_start : Within t h self (length bytes) → Along t h self bytes self 0
  along_start within = record { within = within; among = omega arith; on = on_start t h self within.limits within.placed }

  pub along_next : (now : Search) (i : ℕ) (next : Search) → Along t h self bytes now i → i < length bytes → SearchedOn t h now (get_or bytes i 0 ∷ []) next
      → Along t h self bytes next (i + 1)
  along_next now i next a less step = record {
    within = a.within;
    among = omega arith;
    on = subst (λ (l : List ℕ). SearchedOn t h self l next)
        (sym (take-suc bytes i 0 less) ∙ ap (λ (n : ℕ). take n bytes) (let e : suc i ≡ i + 1 = omega arith in e))
        (on_then t h self now next (take i bytes) (get_or bytes i 0 ∷ []) a.on step);
  }

  -- all of it, or the leak is found
  pub along_end : (now : Search) (i : ℕ) → Along t h self bytes now i → (length bytes ≤ i) ⊎ (now.found ≡ true) → Advancing t h self bytes (said_of now) now
  along_end now i a (inl all) =
      let e : i ≡ length bytes = omega (arith, a.among) in
      Advancing.searched a.within (subst (λ (l : List ℕ). SearchedOn t h self l now) (ap (λ (n : ℕ). take n bytes) e ∙ take-length bytes) a.on)
  along_end now i a (inr is) =
      Advancing.searched a.within (subst (λ (l : List ℕ). SearchedOn t h self l now) (take-append-drop i bytes)
      (on_then t h self now now (take i bytes) (drop i bytes) a.on
      (on_found t h a.within.well_formed now a.on.limits a.on.placed is (drop i bytes))))
