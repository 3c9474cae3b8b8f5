-- What counts for nothing: the symbols of unobservable events, and what stands past the count of further secrets. Assumes nothing.
use mathlib.Core.Path.{◌≡◌, refl, ap₂, sym, subst}
use mathlib.Core.List.{List, [], ◌∷◌, ◌++◌}
use mathlib.Core.Logic.{◌↔◌, inl, inr}
use Prim.Native.Nat.{ℕ}
use native.Mathlib.Omega.{arith}
use lib.ListN.{take}
use Rattle.lists.specs.Calls.{more}
use Rattle.automaton.specs.Run.{Automaton, automaton_of, WellFormed}
use Rattle.automaton.specs.Symbols.{SameSymbols}
use Rattle.automaton.specs.declared.Header.{Header}
use Rattle.automaton.proofs.Agreeing.{possible_agree, impossible_agree}
use Rattle.automaton.proofs.Spelling.{same_agree, same_back}
use Rattle.automaton.proofs.Headers.{same_observable, same_well_formed}
use Rattle.opacity.specs.declared.Notion.{Notion}
use Rattle.opacity.specs.declared.Secret.{Secret}
use Rattle.opacity.specs.declared.Further.{Further}
use Rattle.opacity.specs.Secrets.{further_of, secrets_of, secret_of, secret_at, ForEach, cleared_of}
use Rattle.opacity.specs.Verdicts.{none, leak, IsVerdict}
use Rattle.verifier.specs.Replies.{refused, verdicts}
use Rattle.verifier.specs.Replies as verifier
use Rattle.verifier.specs.Calls.{Call, taken_by, taken_of, accepted_of, offered_of, Answered, AllAnswered}
use Rattle.verifier.proofs.Agreed.{words_agree}
use Rattle.verifier.proofs.PastCount.{past_count, past_secrets, past_allowed, past_large}
use Rattle.leaks.specs.FirstLeaks.{AcceptedPart, SomeLeak, NoneBelow, FirstLeak, NoneLeaks, Said, Finding}
use Rattle.leaks.proofs.Parts.{part_none, part_one, part_append, right_exists}

module _ (t : List ℕ) (h h' : Header) (f g : Further) (like : SameSymbols (automaton_of t h) (automaton_of t h')) (so : WellFormed t h')
    (secrets : secrets_of h f ≡ secrets_of h' g) where
  abbrev p : Automaton
  p = automaton_of t h

  abbrev q : Automaton
  q = automaton_of t h'

  -- the same is accepted
  one_to : (trace : List ℕ) (b : ℕ) (says : verifier.Said) → Answered t h f trace b says → AcceptedPart t h' g trace (b ∷ []) (taken_by says b)
  one_to trace b (refused n) (inl x) = part_one t h' g trace b (refused n) (inl (x.0, λ ob. x.1 ((same_observable t h h' like b).1 ob)))
  one_to trace b (refused n) (inr x) =
      part_one t h' g trace b (refused n)
      (inr (x.0, (same_observable t h h' like b).0 x.1, impossible_agree p q _ _ (same_agree p q like (trace ++ b ∷ [])) x.2))
  one_to trace b (verdicts j) x =
      let can = possible_agree p q _ _ (same_agree p q like (trace ++ b ∷ [])) x.1 in
      let right = right_exists t h' g so (trace ++ b ∷ []) can in
      part_one t h' g trace b (verdicts right.0) ((same_observable t h h' like b).0 x.0, can, right.1)

  all_to : (trace : List ℕ) (cs : List Call) → AllAnswered t h f trace cs → AcceptedPart t h' g trace (offered_of cs) (accepted_of cs)
  all_to trace [] x = part_none t h' g trace
  all_to trace (c ∷ cs) (more i x) =
      part_append t h' g trace (c.byte ∷ []) (offered_of cs) (taken_of c) (accepted_of cs) (one_to trace c.byte c.says i) (all_to (trace ++ taken_of c) cs x)

  part_to : (before bytes x : List ℕ) → AcceptedPart t h f before bytes x → AcceptedPart t h' g before bytes x
  part_to before bytes x u =
      subst (AcceptedPart t h' g before bytes) u.accepted
      (subst (λ (l : List ℕ). AcceptedPart t h' g before l (accepted_of u.calls)) u.offered (all_to before u.calls u.answered))

  -- and leaks
  leak_to : (notion : Notion) (trace : List ℕ) → SomeLeak notion p (secrets_of h f) trace → SomeLeak notion q (secrets_of h' g) trace
  leak_to notion trace x =
      subst (λ (cs : List Secret). SomeLeak notion q cs trace) secrets
      (record {
        number = x.number;
        given = x.given;
        steps = x.steps;
        leaks = words_agree p q trace trace (same_agree p q like trace) (secret_at (secrets_of h f) x.number) notion (leak x.steps) x.leaks;
      })

  none_to : (notion : Notion) (trace : List ℕ) (n : ℕ) → NoneBelow notion p (secrets_of h f) trace n → NoneBelow notion q (secrets_of h' g) trace n
  none_to notion trace n x i some less =
      subst (λ (cs : List Secret). ForEach cs (λ j c. IsVerdict notion q c (take i trace) none)) secrets
      (λ j given. words_agree p q (take i trace) (take i trace) (same_agree p q like (take i trace)) (secret_at (secrets_of h f) j) notion none
      (x i some less j given))

  first_to : (notion : Notion) (bytes : List ℕ) (place : ℕ) → FirstLeak notion t h f bytes place → FirstLeak notion t h' g bytes place
  first_to notion bytes place x =
      record {
        trace = x.trace;
        part = part_to [] bytes x.trace x.part;
        counted = x.counted;
        among = x.among;
        leaks = leak_to notion (take place x.trace) x.leaks;
        first = none_to notion x.trace place x.first;
      }

  none_leaks_to : (notion : Notion) (bytes : List ℕ) → NoneLeaks notion t h f bytes → NoneLeaks notion t h' g bytes
  none_leaks_to notion bytes x =
      record { trace = x.trace; part = part_to [] bytes x.trace x.part; none_leaks = none_to notion x.trace _ x.none_leaks }

-- an unobservable event's symbol counts for nothing
module _ (t : List ℕ) (h h' : Header) (like : SameSymbols (automaton_of t h) (automaton_of t h')) (secret : h.secret ≡ h'.secret) (k : h.k ≡ h'.k)
    (f : Further) (notion : Notion) (bytes : List ℕ) where
  same_given : secrets_of h f ≡ secrets_of h' f
  same_given = ap₂ (λ (states n : ℕ). secret_of states n ∷ further_of f) secret k

  finding_to : (says : Said) → Finding notion t h f bytes says → Finding notion t h' f bytes says
  finding_to says (Finding.malformed bad) = Finding.malformed (λ x. bad ((same_well_formed t h h' like k).1 x))
  finding_to says (Finding.too_many_secrets so many) = Finding.too_many_secrets ((same_well_formed t h h' like k).0 so) many
  finding_to says (Finding.look_back_too_large so few large) = Finding.look_back_too_large ((same_well_formed t h h' like k).0 so) few large
  finding_to says (Finding.none_leaks so allowed x) =
      let so' = (same_well_formed t h h' like k).0 so in
      Finding.none_leaks so' allowed (none_leaks_to t h h' f f like so' same_given notion bytes x)
  finding_to says (Finding.first_leaks so allowed x) =
      let so' = (same_well_formed t h h' like k).0 so in
      Finding.first_leaks so' allowed (first_to t h h' f f like so' same_given notion bytes _ x)

pub same_finding : (t : List ℕ) (h h' : Header) → SameSymbols (automaton_of t h) (automaton_of t h') → h.secret ≡ h'.secret → h.k ≡ h'.k
    → (f : Further) (notion : Notion) (bytes : List ℕ) (says : Said) → Finding notion t h f bytes says ↔ Finding notion t h' f bytes says
same_finding t h h' like secret k f notion bytes says =
    (finding_to t h h' like secret k f notion bytes says, finding_to t h' h (same_back _ _ like) (sym secret) (sym k) f notion bytes says)

-- further secrets that differ past their count alone are answered alike
same_self : (p : Automaton) → SameSymbols p p
same_self p = record { same = record { table = refl; initial = refl; observable = refl }; symbols_are = λ e i. refl }

pub past_finding : (f g : Further) → cleared_of f ≡ cleared_of g → (t : List ℕ) (h : Header) (notion : Notion) (bytes : List ℕ) (says : Said)
    → Finding notion t h f bytes says → Finding notion t h g bytes says
past_finding f g same t h notion bytes says (Finding.malformed bad) = Finding.malformed bad
past_finding f g same t h notion bytes says (Finding.too_many_secrets so many) = Finding.too_many_secrets so (omega (arith, past_count f g same))
past_finding f g same t h notion bytes says (Finding.look_back_too_large so few large) =
    Finding.look_back_too_large so (omega (arith, past_count f g same)) (past_large f g same large)
past_finding f g same t h notion bytes says (Finding.none_leaks so allowed x) =
    Finding.none_leaks so (past_allowed f g same allowed) (none_leaks_to t h h f g (same_self _) so (past_secrets f g same h) notion bytes x)
past_finding f g same t h notion bytes says (Finding.first_leaks so allowed x) =
    Finding.first_leaks so (past_allowed f g same allowed) (first_to t h h f g (same_self _) so (past_secrets f g same h) notion bytes _ x)
