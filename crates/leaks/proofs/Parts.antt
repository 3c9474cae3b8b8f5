-- Every offered list has one accepted part, and that of a list and then another is those of both. Assumes nothing.
use mathlib.Core.Path.{◌≡◌, refl, ap, ap₂, sym, subst, ◌∙◌}
use mathlib.Core.List.{List, [], ◌∷◌, ◌++◌, append-nil}
use mathlib.Core.Logic.{inl, inr}
use Prim.Native.Nat.{ℕ}
use native.Mathlib.Omega.{arith}
use native.Mathlib.Decide.{ℕ_discrete}
use lib.Count.{ones}
use lib.ListN.{length}
use Rattle.lists.specs.Calls.{end, more}
use Rattle.lists.proofs.Chains.{joined_append, each_append}
use Rattle.lists.proofs.Values.{list_of, length_list_of, get_d_list_of}
use Rattle.stateset.specs.Set.{Is}
use Rattle.stateset.proofs.Counting.{ones_counts}
use Rattle.automaton.specs.Run.{Automaton, automaton_of, Possible, Observable, WellFormed}
use Rattle.automaton.specs.Reaching.{Enters, EstimateSize}
use Rattle.automaton.specs.declared.Header.{Header}
use Rattle.automaton.proofs.Headers.{observable?}
use Rattle.automaton.proofs.Traces.{symbol_observable, entry_possible, entry_impossible}
use Rattle.automaton.proofs.Estimates.{set_size, size_some, size_most, right_size}
use Rattle.opacity.specs.declared.Notion.{Notion}
use Rattle.opacity.specs.declared.Notion.TheVariants.{Weak, Strong}
use Rattle.opacity.specs.declared.Further.{Further}
use Rattle.opacity.specs.Secrets.{secrets_of, secret_at}
use Rattle.opacity.specs.Verdicts.{Exactly}
use Rattle.opacity.proofs.Exactness.{exactly}
use Rattle.opacity.proofs.EveryVerdict.{every_verdict}
use Rattle.verifier.specs.Replies.{Told, none_told, steps_by, Findings, Said, refused, verdicts, Opening}
use Rattle.verifier.specs.Calls.{Call, Calls, taken_by, taken_of, accepted_of, offered_of, Right, Answered, AllAnswered}
use Rattle.verifier.proofs.SecondPoint.{second_point}
use Rattle.verifier.specs.declared.Estimator.{Estimator}
use Rattle.waiting.proofs.Following.{estimate, NextEntry, next_entry}
use Rattle.leaks.specs.FirstLeaks.{AcceptedPart}

module _ (t : List ℕ) (h : Header) (f : Further) where
  abbrev p : Automaton
  p = automaton_of t h

  pub part_none : (before : List ℕ) → AcceptedPart t h f before [] []
  part_none before = record { calls = []; offered = refl; answered = end; accepted = refl }

  pub part_one : (before : List ℕ) (b : ℕ) (says : Said) → Answered t h f before b says → AcceptedPart t h f before (b ∷ []) (taken_by says b)
  part_one before b says x =
      record { calls = record { byte = b; says = says } ∷ []; offered = refl; answered = more x end; accepted = append-nil (taken_by says b) }

  pub part_append : (before a b x y : List ℕ) → AcceptedPart t h f before a x → AcceptedPart t h f (before ++ x) b y
      → AcceptedPart t h f before (a ++ b) (x ++ y)
  part_append before a b x y u v =
      record {
        calls = u.calls ++ v.calls;
        offered = joined_append (λ (c : Call). c.byte ∷ []) u.calls v.calls ∙ ap₂ (λ (i j : List ℕ). i ++ j) u.offered v.offered;
        answered = each_append before u.calls v.calls u.answered
            (subst (λ (l : List ℕ). AllAnswered t h f (before ++ l) v.calls) (sym u.accepted) v.answered);
        accepted = joined_append taken_of u.calls v.calls ∙ ap₂ (λ (i j : List ℕ). i ++ j) u.accepted v.accepted;
      }

  -- two answers to one byte take the same
  same_taken : (trace : List ℕ) (b : ℕ) (r s : Said) → Answered t h f trace b r → Answered t h f trace b s → taken_by r b ≡ taken_by s b
  same_taken trace b (refused n) (refused m) x y = refl
  same_taken trace b (verdicts j) (verdicts k) x y = refl
  same_taken trace b (refused n) (verdicts k) (inl x) y = absurd (x.1 y.0)
  same_taken trace b (refused n) (verdicts k) (inr x) y = absurd (x.2 y.1.run y.1.compatible)
  same_taken trace b (verdicts j) (refused m) x (inl y) = absurd (y.1 x.0)
  same_taken trace b (verdicts j) (refused m) x (inr y) = absurd (y.2 x.1.run x.1.compatible)

  same_accepted : (trace : List ℕ) (cs ds : List Call) → offered_of cs ≡ offered_of ds → AllAnswered t h f trace cs → AllAnswered t h f trace ds
      → accepted_of cs ≡ accepted_of ds
  same_accepted trace [] [] e x y = refl
  same_accepted trace [] (d ∷ ds) e x y = let z : ◌≡◌ {A = ℕ} 0 1 = cc in absurd (omega arith)
  same_accepted trace (c ∷ cs) [] e x y = let z : ◌≡◌ {A = ℕ} 0 1 = cc in absurd (omega arith)
  same_accepted trace (c ∷ cs) (d ∷ ds) e (more i x) (more j y) =
      let byte : c.byte ≡ d.byte = cc in
      let rest : offered_of cs ≡ offered_of ds = cc in
      let here : taken_of c ≡ taken_of d =
      same_taken trace c.byte c.says d.says i (subst (λ (b : ℕ). Answered t h f trace b d.says) (sym byte) j)
      ∙ ap (taken_by d.says) byte in
      ap₂ (λ (a b : List ℕ). a ++ b) here
      (same_accepted (trace ++ taken_of c) cs ds rest x (subst (λ (l : List ℕ). AllAnswered t h f (trace ++ l) ds) (sym here) y))

  -- there is one
  pub part_unique : (before bytes x y : List ℕ) → AcceptedPart t h f before bytes x → AcceptedPart t h f before bytes y → x ≡ y
  part_unique before bytes x y u v =
      sym u.accepted ∙ same_accepted before u.calls v.calls (u.offered ∙ sym v.offered) u.answered v.answered ∙ v.accepted

  module _ (well_formed : WellFormed t h) where
    -- a trace has its verdicts, and its number of possible states
    abbrev both : List ℕ → ℕ → Told
    both trace i = record {
      weak = (every_verdict Weak p (secret_at (secrets_of h f) i) trace).0;
      strong = (every_verdict Strong p (secret_at (secrets_of h f) i) trace).0;
    }

    told_exactly : (trace : List ℕ) (notion : Notion) (i : ℕ)
        → Exactly notion p (secret_at (secrets_of h f) i) trace (steps_by notion (both trace i))
    told_exactly trace Weak i = exactly Weak p _ trace _ (every_verdict Weak p (secret_at (secrets_of h f) i) trace).1
    told_exactly trace Strong i = exactly Strong p _ trace _ (every_verdict Strong p (secret_at (secrets_of h f) i) trace).1

    pub right_exists : (trace : List ℕ) → Possible p trace → (j : Findings) × Right t h f trace j
    right_exists trace can =
        let n = length (secrets_of h f) in
        let w = estimate p well_formed.start trace in
        let size : EstimateSize p trace (ones w.word) = set_size p trace w.word _ w.is (ones_counts 64 w.word w.small) in (
          record { each = list_of (both trace) n; size = ones w.word },
          record {
            as_many = length_list_of (both trace) n;
            each = λ notion i given. subst (Exactly notion p (secret_at (secrets_of h f) i) trace)
                (sym (ap (steps_by notion) (get_d_list_of (both trace) n i none_told given))) (told_exactly trace notion i);
            size = right_size p trace _
                (record { some = size_some p trace _ can size; most = size_most p trace _ well_formed.start size }) size;
          },
        )

    -- each byte is answered
    answer_exists : (trace : List ℕ) (b : ℕ) → (says : Said) × Answered t h f trace b says
    answer_exists trace b = go (ℕ_discrete (next_entry p well_formed.start trace b).word 0) (observable? h b)
      where
        entry : NextEntry p well_formed.start trace b
        entry = next_entry p well_formed.start trace b

        is : Is entry.word (Enters p (trace ++ b ∷ []))
        is = entry.is trace (λ q. (λ x. x, λ x. x))

        taken : Possible p (trace ++ b ∷ []) → (says : Said) × Answered t h f trace b says
        taken can =
            let r = right_exists (trace ++ b ∷ []) can in
            (verdicts r.0, (symbol_observable p trace b [] can, can, r.1))

        go : Dec (entry.word ≡ 0) → Dec (Observable h b) → (says : Said) × Answered t h f trace b says
        go (no some) d = taken (entry_possible p (trace ++ b ∷ []) entry.word entry.small some is)
        go (yes none) (yes ob) = (refused 7, inr (refl, ob, entry_impossible p (trace ++ b ∷ []) entry.word none is))
        go (yes none) (no never) = (refused 6, inl (refl, never))

    pub part_exists : (before bytes : List ℕ) → (x : List ℕ) × AcceptedPart t h f before bytes x
    part_exists before [] = ([], part_none before)
    part_exists before (b ∷ rest) =
        let a = answer_exists before b in
        let later = part_exists (before ++ taken_by a.0 b) rest in
        (taken_by a.0 b ++ later.0, part_append before (b ∷ []) rest _ _ (part_one before b a.0 a.1) later.1)

-- it is what the verifier's calls accept
pub accepted_by_calls : (t : List ℕ) (h : Header) (f : Further) (j : Findings) (s : Estimator) (cs : List Call) (e : Estimator)
    → Opening t h f (verdicts j) s → Calls t h s cs e → AcceptedPart t h f [] (offered_of cs) (accepted_of cs)
accepted_by_calls t h f j s cs e o calls =
    record { calls = cs; offered = refl; answered = (second_point t h f j s cs e o calls).answered; accepted = refl }
