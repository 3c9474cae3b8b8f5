-- Source document 000's Definition 6, soundness and completeness of a verifier, holds of ours. Assumes nothing.
use mathlib.Core.Path.{◌≡◌, refl, sym, subst}
use mathlib.Core.List.{List, [], ◌∷◌, ◌++◌, append_assoc, append-nil}
use mathlib.Core.Logic.{inl, inr, ◌↔◌}
use Prim.Native.Nat.{ℕ}
use Rattle.lists.specs.Calls.{more}
use Rattle.automaton.specs.declared.Header.{Header}
use Rattle.automaton.specs.Run.{Automaton, automaton_of, Possible, Observable}
use Rattle.automaton.proofs.Traces.{front_possible, symbol_observable}
use Rattle.opacity.specs.declared.Secret.{Secret}
use Rattle.opacity.specs.declared.Notion.{Notion}
use Rattle.opacity.specs.declared.Further.{Further}
use Rattle.opacity.specs.Secrets.{secrets_of, secret_at}
use Rattle.opacity.specs.Verdicts.{Steps}
use Rattle.verifier.specs.Replies.{Findings, told_at, Said, refused, verdicts}
use Rattle.verifier.specs.Calls.{Call, taken_by, offered_of, Right, Answered, AllAnswered}
use Rattle.verifier.proofs.SecondPoint.{second_point}
use Rattle.published.specs.Source.{Published, RightVerdict, RightVerdicts, SoundComplete, last_said, SaysAfter}
use Rattle.published.proofs.SourceLaws.{published}

-- the published verdict is the one of Definition 6
pub right_verdict : (notion : Notion) (p : Automaton) (secret : Secret) (μ : List ℕ) (γ : Steps)
    → Published notion p secret μ γ ↔ RightVerdict notion p secret μ γ
right_verdict notion p secret μ γ = (
  (λ x. record { domain = λ l e. ((x.leaks l).0 e).0; leaks = λ l h. ((λ e. ((x.leaks l).0 e).1), (λ y. (x.leaks l).1 (h, y))); clear = x.clear }),
  (λ x. record { leaks = λ l. ((λ e. (x.domain l e, (x.leaks l (x.domain l e)).0 e)), (λ y. (x.leaks l y.0).1 y.1)); clear = x.clear }),
)

module _ (t : List ℕ) (h : Header) (f : Further) where
  abbrev RightAfter : List ℕ → Said → Type 0
  RightAfter μ r = RightVerdicts (automaton_of t h) (secrets_of h f) μ r

  right_after : (μ : List ℕ) (j : Findings) → Possible (automaton_of t h) μ → Right t h f μ j → RightAfter μ (verdicts j)
  right_after μ j x right = record {
    told = j;
    said_is = refl;
    as_many = right.as_many;
    each_right = λ notion i given.
        let p = automaton_of t h in
        let c = secret_at (secrets_of h f) i in
        (right_verdict notion p c μ (told_at notion j.each i)).0 (published p c μ x notion (told_at notion j.each i) (right.each notion i given));
    size_right = (right.size.exactly j.size).0 refl;
  }

  -- an event of an observed trace is not refused
  answer_right : (trace : List ℕ) (byte : ℕ) (says : Said) → Answered t h f trace byte says → Observable h byte
      → Possible (automaton_of t h) (trace ++ byte ∷ [])
      → (taken_by says byte ≡ byte ∷ []) × RightAfter (trace ++ byte ∷ []) says
  answer_right trace byte (refused n) (inl x) seen possible = absurd (x.1 seen)
  answer_right trace byte (refused n) (inr x) seen possible = absurd (x.2 possible.run possible.compatible)
  answer_right trace byte (verdicts j) x seen possible = (refl, right_after (trace ++ byte ∷ []) j possible x.2)

  split : (trace : List ℕ) (c : Call) (cs : List Call) → AllAnswered t h f trace (c ∷ cs)
      → Answered t h f trace c.byte c.says × AllAnswered t h f (trace ++ taken_by c.says c.byte) cs
  split trace c cs (more x y) = (x, y)

  -- the last answer to the events of an observed trace, one after another
  follow : (trace : List ℕ) (r : Said) (cs : List Call) → RightAfter trace r → AllAnswered t h f trace cs → Possible (automaton_of t h) (trace ++ offered_of cs)
      → RightAfter (trace ++ offered_of cs) (last_said r cs)
  follow trace r [] x all possible = rw (append-nil trace) x
  follow trace r (c ∷ cs) x all possible =
      let parts = split trace c cs all in
      let here = append_assoc trace (c.byte ∷ []) (offered_of cs) in
      let later : Possible (automaton_of t h) ((trace ++ c.byte ∷ []) ++ offered_of cs) = subst (Possible (automaton_of t h)) (sym here) possible in
      let y = answer_right trace c.byte c.says parts.0 (symbol_observable (automaton_of t h) trace c.byte (offered_of cs) possible)
      (front_possible (automaton_of t h) (trace ++ c.byte ∷ []) (offered_of cs) later) in
      let rest : AllAnswered t h f (trace ++ c.byte ∷ []) cs = subst (λ (l : List ℕ). AllAnswered t h f (trace ++ l) cs) y.0 parts.1 in
      subst (λ (l : List ℕ). RightAfter l (last_said c.says cs)) here (follow (trace ++ c.byte ∷ []) c.says cs y.1 rest later)

-- Definition 6 of our verifier: a fresh estimator that was not refused and is offered the events of an observed trace refuses none of them, and its
-- verdicts are
-- the trace's for every secret, by both notions
pub definition_6 : (t : List ℕ) (h : Header) (f : Further) → SoundComplete (automaton_of t h) (secrets_of h f) (SaysAfter t h f)
definition_6 t h f μ x r y =
    let promise = second_point t h f y.told y.fresh y.calls y.last y.opening y.made in
    let start : Possible (automaton_of t h) [] = record { run = []; compatible = record { takes = tt; shown_is = refl } } in
    let last = follow t h f [] (verdicts y.told) y.calls (right_after t h f [] y.told start promise.opening) promise.answered
    (subst (Possible (automaton_of t h)) (sym y.events) x) in
    subst (RightAfter t h f μ) y.says (subst (λ (l : List ℕ). RightAfter t h f l (last_said (verdicts y.told) y.calls)) y.events last)
