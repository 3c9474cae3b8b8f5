-- The mission's second point, from what each call promises. Assumes nothing.
use mathlib.Core.Path.{◌≡◌, refl, ap, ◌∙◌, subst}
use mathlib.Core.List.{List, [], ◌∷◌, ◌++◌, append_assoc, append-nil}
use mathlib.Core.Logic.{inl, inr}
use Prim.Native.Nat.{ℕ}
use lib.ListN.{length}
use Rattle.lists.specs.Calls.{done, next, end, more}
use Rattle.automaton.specs.Run.{automaton_of, WellFormed}
use Rattle.automaton.specs.declared.Header.{Header}
use Rattle.opacity.specs.declared.Secret.{Secret}
use Rattle.opacity.specs.declared.Further.{Further}
use Rattle.verifier.specs.declared.Estimator.{Estimator}
use Rattle.opacity.specs.Secrets.{secrets_of, cleared_of}
use Rattle.verifier.specs.Estimators.{InLimits, GrownOn}
use Rattle.verifier.specs.Replies.{Findings, Said, refused, verdicts, Exact, Unusable, Opening, opened, Accepting, not_observable, incompatible, accepted}
use Rattle.automaton.specs.Reaching.{SizeWithin}
use Rattle.verifier.specs.Calls.{Call, Calls, taken_by, accepted_of, Right, Answered, AllAnswered, VerifierPromise}
use Rattle.opacity.proofs.Numbering.{look_back_small, same_secrets}
use Rattle.opacity.proofs.Exactness.{exactly}
use Rattle.automaton.proofs.Estimates.{right_size}
use Rattle.verifier.proofs.Growing.{grown_limits}

-- what an answer tells of a trace is right
pub right : (t : List ℕ) (h : Header) (f : Further) (trace : List ℕ) (j : Findings) (s : Estimator) → length j.each ≡ length (secrets_of h f)
    → SizeWithin j.size
    → Exact t h (secrets_of h f) trace j s → Right t h f trace j
right t h f trace j s as_many within x =
    record {
      as_many = as_many;
      each = λ notion i given. exactly notion _ _ trace _ (x.tells notion i given);
      size = right_size (automaton_of t h) trace j.size within x.size;
    }

module _ (t : List ℕ) (h : Header) (f : Further) (well_formed : WellFormed t h) where
  -- one call after some accepted bytes, on an estimator with the secrets that were given
  record One (trace : List ℕ) (byte : ℕ) (says : Said) (m : Estimator) : Type 0 where
    answered : Answered t h f trace byte says
    same : m.further ≡ cleared_of f
    grown : GrownOn t h (trace ++ taken_by says byte) m

  one : (trace : List ℕ) (s : Estimator) (byte : ℕ) (says : Said) (m : Estimator) → s.further ≡ cleared_of f → GrownOn t h trace s → Accepting t h s byte says m
      → One trace byte says m
  one trace s byte says m same g (Accepting.malformed bad) = absurd (bad (well_formed, grown_limits (automaton_of t h) _ trace s g well_formed.symbols_small))
  one trace s byte says m same g (not_observable so li never) = record { answered = inl (refl, never); same = same; grown = rw (append-nil trace) g }
  one trace s byte says m same g (incompatible so li ob none) = record { answered = inr (refl, ob, none trace g); same = same; grown = rw (append-nil trace) g }
  one trace s byte says m same g (accepted {j = j} so li ob kept after as_many b within exact) =
      let x = exact trace g in
      let secrets : secrets_of h s.further ≡ secrets_of h f = ap (secrets_of h) same ∙ same_secrets h f in
      record {
        answered = (
          ob,
          x.possible,
          right t h f _ j m (as_many ∙ ap length secrets) within
              (subst (λ (cs : List Secret). Exact t h cs (trace ++ byte ∷ []) j m) secrets x),
        );
        same = kept ∙ same;
        grown = x.grown;
      }

  -- all calls after some accepted bytes
  record After (trace : List ℕ) (cs : List Call) (e : Estimator) : Type 0 where
    answered : AllAnswered t h f trace cs
    same : e.further ≡ cleared_of f
    grown : GrownOn t h (trace ++ accepted_of cs) e

  follow : (trace : List ℕ) (s : Estimator) (cs : List Call) (e : Estimator) → s.further ≡ cleared_of f → GrownOn t h trace s → Calls t h s cs e
      → After trace cs e
  follow trace s cs e same g done = record { answered = end; same = same; grown = rw (append-nil trace) g }
  follow trace s cs e same g (next {m = m} {c = c} {cs = rest} a more-calls) =
      let x = one trace s c.byte c.says m same g a in
      let y : After (trace ++ taken_by c.says c.byte) rest e = follow (trace ++ taken_by c.says c.byte) m rest e x.same x.grown more-calls in
      record {
        answered = more x.answered y.answered;
        same = y.same;
        grown = rw (append_assoc trace (taken_by c.says c.byte) (accepted_of rest)) at y.grown;
      }

-- a fresh estimator with further secrets that was not refused, and a list of offered bytes
pub second_point : (t : List ℕ) (h : Header) (f : Further) (j : Findings) (s : Estimator) (cs : List Call) (e : Estimator)
    → Opening t h f (verdicts j) s → Calls t h s cs e → VerifierPromise t h f j cs e
second_point t h f j s cs e (opened well_formed allowed same li as_many within x) calls =
    let y = follow t h f well_formed [] s cs e same x.grown calls in
    record { opening = right t h f [] j s as_many within x; answered = y.answered; same = y.same; grown = y.grown }

-- what a refused start hands back is no estimator: every byte offered to it, with every table and header, gets 9
pub refused_unusable : {t : List ℕ} {h : Header} {f : Further} {n : ℕ} {s : Estimator} → Opening t h f (refused n) s → Unusable s
refused_unusable (Opening.malformed bad out) = out
refused_unusable (Opening.too_many_secrets so many out) = out
refused_unusable (Opening.look_back_too_large so few large out) = out

pub never_within : (t : List ℕ) (h : Header) (s : Estimator) → Unusable s → WellFormed t h → InLimits h s → ⊥
never_within t h s out so li = out _ (look_back_small h s.further so.back li.allowed) li

pub refused_fresh : (t : List ℕ) (h : Header) (f : Further) (n : ℕ) (s : Estimator) → Opening t h f (refused n) s
    → (t' : List ℕ) (h' : Header) (byte : ℕ) (r : Said) (m : Estimator) → Accepting t' h' s byte r m → r ≡ refused 9
refused_fresh t h f n s x t' h' byte r m (Accepting.malformed bad) = refl
refused_fresh t h f n s x t' h' byte r m (not_observable so li never) = absurd (never_within t' h' s (refused_unusable x) so li)
refused_fresh t h f n s x t' h' byte r m (incompatible so li ob none) = absurd (never_within t' h' s (refused_unusable x) so li)
refused_fresh t h f n s x t' h' byte r m (accepted so li ob kept after as_many b within exact) = absurd (never_within t' h' s (refused_unusable x) so li)
