-- What is offered after the event of the first leak has no influence. Assumes nothing.
use mathlib.Core.Path.{◌≡◌, ap, subst, ◌∙◌}
use mathlib.Core.List.{List, [], ◌++◌}
use Prim.Native.Nat.{ℕ, ◌≤◌}
use native.Mathlib.Omega.{arith}
use lib.ListN.{length, take}
use lib.Seq.{take-append-le}
use Rattle.automaton.specs.Run.{automaton_of, WellFormed}
use Rattle.automaton.specs.declared.Header.{Header}
use Rattle.opacity.specs.declared.Notion.{Notion}
use Rattle.opacity.specs.declared.Further.{Further}
use Rattle.opacity.specs.Secrets.{secrets_of, secret_at}
use Rattle.opacity.specs.Verdicts.{none, IsVerdict}
use Rattle.leaks.specs.FirstLeaks.{AcceptedPart, SomeLeak, FirstLeak, at, Finding}
use Rattle.leaks.proofs.Parts.{part_append, part_unique, part_exists}
use Rattle.leaks.proofs.Leaking.{first_kept}

module _ (notion : Notion) (t : List ℕ) (h : Header) (f : Further) (well_formed : WellFormed t h) where
  -- the list up to the event has the same first leak
  first_front : (front later a : List ℕ) (place : ℕ) → FirstLeak notion t h f (front ++ later) place → AcceptedPart t h f [] front a → place ≤ length a
      → FirstLeak notion t h f front place
  first_front front later a place x part among =
      let y = part_exists t h f well_formed a later in
      let is : x.trace ≡ a ++ y.0 =
      part_unique t h f [] (front ++ later) x.trace (a ++ y.0) x.part (part_append t h f [] front later a y.0 part y.1) in
      let same : (q : ℕ) → q ≤ length a → take q x.trace ≡ take q a = λ q few. ap (take q) is ∙ take-append-le q a y.0 few in
      record {
        trace = a;
        part = part;
        counted = x.counted;
        among = among;
        leaks = subst (SomeLeak notion (automaton_of t h) (secrets_of h f)) (same place among) x.leaks;
        first = λ q some less i given.
            subst (λ (l : List ℕ). IsVerdict notion (automaton_of t h) (secret_at (secrets_of h f) i) l none) (same q (omega (arith, among)))
            (x.first q some less i given);
      }

-- any two lists that agree up to the event get the same answer
pub later_bytes : (notion : Notion) (t : List ℕ) (h : Header) (f : Further) (front later other a : List ℕ) (place : ℕ)
    → Finding notion t h f (front ++ later) (at place) → AcceptedPart t h f [] front a → place ≤ length a → Finding notion t h f (front ++ other) (at place)
later_bytes notion t h f front later other a place (Finding.first_leaks so allowed x) part among =
    Finding.first_leaks so allowed (first_kept notion t h f so front other place (first_front notion t h f so front later a place x part among))
