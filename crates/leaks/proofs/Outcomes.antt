-- What beginning a search gives, and what the search of a whole list has found. Assumes nothing.
use mathlib.Core.Path.{◌≡◌, refl}
use mathlib.Core.Bool.{Bool, true, false}
use mathlib.Core.List.{List, []}
use Prim.Native.Nat.{ℕ, ◌<◌, ◌^◌}
use native.Mathlib.Omega.{arith}
use lib.ListN.{length}
use Rattle.automaton.specs.Run.{WellFormed}
use Rattle.automaton.specs.declared.Header.{Header}
use Rattle.opacity.specs.declared.Notion.{Notion}
use Rattle.opacity.specs.declared.Further.{Further}
use Rattle.opacity.specs.Secrets.{Allowed}
use Rattle.verifier.specs.declared.Estimator.{Estimator}
use Rattle.verifier.specs.Replies as verifier
use Rattle.verifier.specs.Replies.{Findings, Opening}
use Rattle.leaks.specs.declared.Search.{Search}
use Rattle.leaks.specs.FirstLeaks.{Said, refused, nowhere, at, Finding}
use Rattle.leaks.specs.Searches.{Searched, found_said, said_of, Beginning, Advancing}
use Rattle.leaks.proofs.Parts.{part_none}
use Rattle.leaks.proofs.Searching.{absent}

module _ (notion : Notion) (t : List ℕ) (h : Header) (f : Further) where
  -- a search of no byte yet
  abbrev fresh : Estimator → Search
  fresh m = record { estimator = m; notion = notion; accepted = 0; found = false }

  pub begin_refused : (n : ℕ) (s : Search) → Opening t h f (verifier.refused n) s.estimator → Beginning notion t h f (refused n) s
  begin_refused n s (Opening.malformed bad out) = Beginning.malformed bad out
  begin_refused n s (Opening.too_many_secrets so many out) = Beginning.too_many_secrets so many out
  begin_refused n s (Opening.look_back_too_large so few large out) = Beginning.look_back_too_large so few large out

  pub begin_begun : (j : Findings) (m : Estimator) → Opening t h f (verifier.verdicts j) m → Beginning notion t h f nowhere (fresh m)
  begin_begun j m (Opening.opened so allowed same limits as_many within x) =
      Beginning.begun so allowed limits refl refl (record {
        by = refl;
        same = same;
        not_found = λ e. record {
          trace = [];
          part = part_none t h f [];
          grown = x.grown;
          counted = refl;
          none_leaks = λ q one below. absurd (omega arith);
        };
        found = λ e. absent refl e;
      })

  -- what a search holds after a list is what is found in it
  pub finding_searched : WellFormed t h → Allowed f → (bytes : List ℕ) (s : Search) → Searched notion t h f bytes s → Finding notion t h f bytes (said_of s)
  finding_searched so allowed bytes s x = go s.found refl
    where
      go : (b : Bool) → s.found ≡ b → Finding notion t h f bytes (found_said b s.accepted)
      go true e = Finding.first_leaks so allowed (x.found e)
      go false e = let g = x.not_found e in Finding.none_leaks so allowed (record { trace = g.trace; part = g.part; none_leaks = g.none_leaks })

  pub finding_refused : (bytes : List ℕ) (n : ℕ) (s : Search) → Beginning notion t h f (refused n) s → Finding notion t h f bytes (refused n)
  finding_refused bytes n s (Beginning.malformed bad out) = Finding.malformed bad
  finding_refused bytes n s (Beginning.too_many_secrets so many out) = Finding.too_many_secrets so many
  finding_refused bytes n s (Beginning.look_back_too_large so few large out) = Finding.look_back_too_large so few large

  -- no leak is found before the first byte
  pub never_at : {A : Type 0} (place : ℕ) (s : Search) → Beginning notion t h f (at place) s → A
  never_at place s = elim [ ]

  pub finding_advanced : (bytes : List ℕ) (s e : Search) (says : Said) → length bytes < 2 ^ 64 → Beginning notion t h f nowhere s
      → Advancing t h s bytes says e → Finding notion t h f bytes says
  finding_advanced bytes s e says short (Beginning.begun so allowed limits going zero x) (Advancing.malformed bad) =
      absurd (bad (record { well_formed = so; limits = limits; placed = λ u. absent going u; countable = λ u. omega (arith, zero) }))
  finding_advanced bytes s e says short (Beginning.begun so allowed limits going zero x) (Advancing.searched within on) =
      finding_searched so allowed bytes e (on.exact notion f [] x)
