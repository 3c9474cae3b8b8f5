-- What calls of a fresh estimator accept are the possible traces, so the reachable configurations are the estimators that its calls hand back. Assumes
-- nothing.
use mathlib.Core.Path.{◌≡◌, refl, ap, sym, ◌∙◌, subst}
use mathlib.Core.List.{List, [], ◌∷◌, ◌++◌, append_assoc}
use mathlib.Core.Logic.{◌↔◌, inl, inr}
use Prim.Native.Nat.{ℕ, ◌<◌}
use lib.ListN.{length}
use Rattle.lists.specs.Calls.{done, next}
use Rattle.lists.proofs.Chains.{all_taken, every}
use Rattle.automaton.specs.Run.{automaton_of, Possible, WellFormed}
use Rattle.automaton.specs.declared.Header.{Header}
use Rattle.automaton.proofs.Traces.{front_possible, symbol_observable}
use Rattle.opacity.specs.declared.Notion.{Notion}
use Rattle.opacity.specs.declared.Notion.TheVariants.{Weak, Strong}
use Rattle.opacity.specs.declared.Further.{Further}
use Rattle.opacity.specs.Secrets.{secrets_of, secret_at, look_back_of, cleared_of}
use Rattle.opacity.specs.Verdicts.{Bounded, Tells}
use Rattle.verifier.specs.declared.Estimator.{Estimator}
use Rattle.verifier.specs.Estimators.{Grown, GrownOn}
use Rattle.verifier.specs.Replies.{Told, none_told, steps_by, told_at, Findings, Said, refused, verdicts, Opening, opened, Accepting}
use Rattle.verifier.specs.Calls.{Call, Calls, taken_by, taken_of, accepted_of, offered_of, Answered}
use Rattle.verifier.proofs.Growing.{grown_unique}
use Rattle.verifier.proofs.SecondPoint.{second_point}
use Rattle.waiting.specs.AcceptedLists.{AcceptedFrom}
use Rattle.waiting.proofs.Moving.{after, grown_after, size, moved, verdict, told}
use Rattle.lists.proofs.Values.{list_of, length_list_of, get_d_list_of}

module _ (t : List ℕ) (h : Header) (well_formed : WellFormed t h) where
  -- a symbol that can follow is accepted
  module _ (trace : List ℕ) (s : Estimator) (b : ℕ) (g : GrownOn t h trace s) (possible : Possible (automaton_of t h) (trace ++ b ∷ [])) where
    abbrev n : ℕ
    n = length (secrets_of h s.further)

    abbrev both : ℕ → Told
    both i = record { weak = verdict t h well_formed trace s b g possible Weak i; strong = verdict t h well_formed trace s b g possible Strong i }

    pub answer : Findings
    answer = record { each = list_of both n; size = size t h well_formed trace s b g possible }

    told-at : (notion : Notion) (i : ℕ) → i < n → verdict t h well_formed trace s b g possible notion i ≡ told_at notion (list_of both n) i
    told-at Weak i given = sym (ap (steps_by Weak) (get_d_list_of both n i none_told given))
    told-at Strong i given = sym (ap (steps_by Strong) (get_d_list_of both n i none_told given))

    pub accepting : Accepting t h s b (verdicts answer) (after t h well_formed trace s b g possible)
    unfolding answer
    accepting =
        let m = moved t h well_formed trace s b g possible in
        let x = told t h well_formed trace s b g possible in
        Accepting.accepted well_formed m.limits m.observable m.same m.limits_after (length_list_of both n)
        (λ notion i given. subst (Bounded (secret_at (secrets_of h s.further) i).k) (told-at notion i given) (x notion i given).bounded) m.size_within
        (λ other o. record {
          possible = (m.grown other o).possible;
          tells = λ notion i given. subst (Tells notion (automaton_of t h) (secret_at (secrets_of h s.further) i) (other ++ b ∷ [])) (told-at notion i given)
              ((x notion i given).tells other o);
          size = m.size other o;
          grown = m.grown other o;
        })

  call : (before : List ℕ) (s : Estimator) (bytes : List ℕ) → GrownOn t h before s → Possible (automaton_of t h) (before ++ bytes) → AcceptedFrom t h s bytes
  call before s [] g possible = record { calls = []; end = s; called = done; accepted = refl }
  call before s (b ∷ rest) g possible =
      more (front_possible (automaton_of t h) (before ++ b ∷ []) rest later) (λ m g'. call (before ++ b ∷ []) m rest g' later)
    where
      later : Possible (automaton_of t h) ((before ++ b ∷ []) ++ rest)
      later = subst (Possible (automaton_of t h)) (sym (append_assoc before (b ∷ []) rest)) possible

      more : Possible (automaton_of t h) (before ++ b ∷ []) → ((m : Estimator) → GrownOn t h (before ++ b ∷ []) m → AcceptedFrom t h m rest)
          → AcceptedFrom t h s (b ∷ rest)
      more now go =
          let y = go (after t h well_formed before s b g now) (grown_after t h well_formed before s b g now before g) in
          record {
            calls = record { byte = b; says = verdicts (answer before s b g now) } ∷ y.calls;
            end = y.end;
            called = next (accepting before s b g now) y.called;
            accepted = ap (λ (l : List ℕ). b ∷ l) y.accepted;
          }

module _ (t : List ℕ) (h : Header) (f : Further) (j : Findings) (s₀ : Estimator) where
  -- what calls of a fresh estimator accept are exactly the possible traces
  pub accepted_lists : Opening t h f (verdicts j) s₀ → (trace : List ℕ) → Possible (automaton_of t h) trace ↔ AcceptedFrom t h s₀ trace
  accepted_lists (opened so allowed same li as_many within x) trace = (
    λ possible. call t h so [] s₀ trace x.grown possible,
    λ y. subst (Possible (automaton_of t h)) y.accepted
        (second_point t h f j s₀ y.calls y.end (opened so allowed same li as_many within x) y.called).grown.possible,
  )

  -- whoever offers a possible trace has it accepted
  pub calls_taken : Opening t h f (verdicts j) s₀ → (cs : List Call) (e : Estimator) → Calls t h s₀ cs e → Possible (automaton_of t h) (offered_of cs)
      → accepted_of cs ≡ offered_of cs
  calls_taken o cs e calls possible =
      all_taken taken_of (λ c. c.byte) _ (λ c. Unit {0}) (Possible (automaton_of t h)) (front_possible (automaton_of t h))
      (λ trace c x good can. one trace c.byte c.says x can) [] cs (second_point t h f j s₀ cs e o calls).answered (every (λ c. tt) cs) possible
    where
      one : (trace : List ℕ) (byte : ℕ) (says : Said) → Answered t h f trace byte says → Possible (automaton_of t h) (trace ++ byte ∷ [])
          → taken_by says byte ≡ byte ∷ []
      one trace byte (refused n) (inl x) can = absurd (x.1 (symbol_observable (automaton_of t h) trace byte [] can))
      one trace byte (refused n) (inr x) can = absurd (x.2 can.run can.compatible)
      one trace byte (verdicts k) x can = refl

  -- an estimator with these further secrets has grown by some trace exactly where calls of a fresh one lead to it
  pub reached_by_calls : Opening t h f (verdicts j) s₀ → (s : Estimator)
      → ((s.further ≡ cleared_of f) × ((trace : List ℕ) × GrownOn t h trace s)) ↔ ((cs : List Call) × Calls t h s₀ cs s)
  reached_by_calls (opened so allowed same li as_many within x) s = (there, back)
    where
      back : (cs : List Call) × Calls t h s₀ cs s → (s.further ≡ cleared_of f) × ((trace : List ℕ) × GrownOn t h trace s)
      back c =
          let y = second_point t h f j s₀ c.0 s (opened so allowed same li as_many within x) c.1 in
          (y.same, (accepted_of c.0, y.grown))

      there : (s.further ≡ cleared_of f) × ((trace : List ℕ) × GrownOn t h trace s) → (cs : List Call) × Calls t h s₀ cs s
      there (kept, (trace, g)) =
          let y = call t h so [] s₀ trace x.grown g.possible in
          let e = second_point t h f j s₀ y.calls y.end (opened so allowed same li as_many within x) y.called in
          let secrets : y.end.further ≡ s.further = e.same ∙ sym kept in
          let grown : Grown (automaton_of t h) (look_back_of h s.further) trace y.end =
          subst (λ (l : List ℕ). Grown (automaton_of t h) (look_back_of h s.further) l y.end) y.accepted
          (subst (λ (k : Further). Grown (automaton_of t h) (look_back_of h k) (accepted_of y.calls) y.end) secrets e.grown) in
          let is : y.end ≡ s = grown_unique (automaton_of t h) (look_back_of h s.further) trace y.end s secrets grown g in
          (y.calls, subst (λ (r : Estimator). Calls t h s₀ y.calls r) is y.called)
