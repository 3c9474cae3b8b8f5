-- The promise of a search over any list of blocks, from what each call promises. Assumes nothing.
use mathlib.Core.Path.{◌≡◌, refl, ap}
use mathlib.Core.Bool.{Bool, true, false}
use mathlib.Core.List.{List, [], ◌++◌, append_assoc, append-nil}
use Prim.Native.Nat.{ℕ, ◌+◌, ◌≤◌, ◌<◌, ◌^◌}
use native.Mathlib.Omega.{arith}
use native.Mathlib.Decide.{dec_lt}
use lib.ListN.{length}
use Rattle.lists.specs.Calls.{done, next, Each, end, more}
use Rattle.automaton.specs.Run.{WellFormed}
use Rattle.automaton.specs.declared.Header.{Header}
use Rattle.opacity.specs.declared.Notion.{Notion}
use Rattle.opacity.specs.declared.Further.{Further}
use Rattle.opacity.specs.Secrets.{Allowed}
use Rattle.verifier.specs.Estimators.{InLimits}
use Rattle.verifier.specs.Replies.{Unusable}
use Rattle.verifier.proofs.SecondPoint.{never_within}
use Rattle.leaks.specs.declared.Search.{Search}
use Rattle.leaks.specs.FirstLeaks.{Said, refused, nowhere, Finding}
use Rattle.leaks.specs.Searches.{Searched, found_said, said_of, Within, Beginning, Advancing}
use Rattle.leaks.specs.Blocks.{Block, Blocks, taken_by, taken_of, whole_of, Uncountable, Answered, SearchPromise}
use Rattle.leaks.proofs.Searching.{absent}
use Rattle.leaks.proofs.Outcomes.{finding_searched}
use Rattle.leaks.proofs.Parts.{part_unique}
use Rattle.leaks.proofs.Only.{place_or_none}

module _ (notion : Notion) (t : List ℕ) (h : Header) (f : Further) (so : WellFormed t h) (allowed : Allowed f) where
  -- what is refused could not be counted
  uncountable : (before bytes : List ℕ) (s : Search) → InLimits h s.estimator → (s.found ≡ true → 1 ≤ s.accepted) → Searched notion t h f before s
      → (Within t h s (length bytes) → ⊥) → Uncountable notion t h f before bytes
  uncountable before bytes s limits placed x bad = go s.found refl (dec_lt (s.accepted + length bytes) (2 ^ 64))
    where
      go : (b : Bool) → s.found ≡ b → Dec (s.accepted + length bytes < 2 ^ 64) → Uncountable notion t h f before bytes
      go true e d = absurd (bad (record { well_formed = so; limits = limits; placed = placed; countable = λ u. absent u e }))
      go false e (yes d) = absurd (bad (record { well_formed = so; limits = limits; placed = placed; countable = λ u. d }))
      go false e (no d) =
          let g = x.not_found e in
          record { none_leaks = record { trace = g.trace; part = g.part; none_leaks = g.none_leaks }; many = omega (arith, g.counted) }

  -- and what is not refused could be
  countable : (before bytes : List ℕ) (s : Search) → Searched notion t h f before s → Within t h s (length bytes) → Uncountable notion t h f before bytes → ⊥
  countable before bytes s x within u = go s.found refl
    where
      go : (b : Bool) → s.found ≡ b → ⊥
      go true e = place_or_none notion t h f before s.accepted (x.found e) u.none_leaks
      go false e =
          let g = x.not_found e in
          let same : u.none_leaks.trace ≡ g.trace = part_unique t h f [] before _ _ u.none_leaks.part g.part in
          absurd (omega (arith, within.countable e, u.many, ap length same, g.counted))

  -- one block behind others
  record One (before bytes : List ℕ) (says : Said) (m : Search) : Type 0 where
    answered : Answered notion t h f before bytes says
    limits : InLimits h m.estimator
    placed : m.found ≡ true → 1 ≤ m.accepted
    searched : Searched notion t h f (before ++ taken_by says bytes) m

  -- what a search says is no refusal
  found_one : (before bytes : List ℕ) (m : Search) → (Uncountable notion t h f before bytes → ⊥) → InLimits h m.estimator
      → (m.found ≡ true → 1 ≤ m.accepted) → Searched notion t h f (before ++ bytes) m → One before bytes (said_of m) m
  found_one before bytes m few limits placed x = go m.found (finding_searched notion t h f so allowed (before ++ bytes) m x)
    where
      go : (b : Bool) → Finding notion t h f (before ++ bytes) (found_said b m.accepted) → One before bytes (found_said b m.accepted) m
      go true y = record { answered = (few, y); limits = limits; placed = placed; searched = x }
      go false y = record { answered = (few, y); limits = limits; placed = placed; searched = x }

  one : (before : List ℕ) (s : Search) (bytes : List ℕ) (says : Said) (m : Search) → InLimits h s.estimator → (s.found ≡ true → 1 ≤ s.accepted)
      → Searched notion t h f before s → Advancing t h s bytes says m → One before bytes says m
  one before s bytes says m limits placed x (Advancing.malformed bad) = record {
    answered = (refl, uncountable before bytes s limits placed x bad);
    limits = limits;
    placed = placed;
    searched = rw (append-nil before) x;
  }
  one before s bytes says m limits placed x (Advancing.searched within on) =
      found_one before bytes m (countable before bytes s x within) on.limits on.placed (on.exact notion f before x)

  -- all blocks behind others
  record After (before : List ℕ) (cs : List Block) (e : Search) : Type 0 where
    answered : Each taken_of (λ before c. Answered notion t h f before c.bytes c.says) before cs
    searched : Searched notion t h f (before ++ whole_of cs) e

  follow : (before : List ℕ) (s : Search) (cs : List Block) (e : Search) → InLimits h s.estimator → (s.found ≡ true → 1 ≤ s.accepted)
      → Searched notion t h f before s → Blocks t h s cs e → After before cs e
  follow before s cs e limits placed x done = record { answered = end; searched = rw (append-nil before) x }
  follow before s cs e limits placed x (next {m = m} {c = c} {cs = rest} a later) =
      let y = one before s c.bytes c.says m limits placed x a in
      let z : After (before ++ taken_of c) rest e = follow (before ++ taken_of c) m rest e y.limits y.placed y.searched later in
      record {
        answered = more y.answered z.answered;
        searched = rw (append_assoc before (taken_of c) (whole_of rest)) at z.searched;
      }

pub search_promise : (notion : Notion) (t : List ℕ) (h : Header) (f : Further) (s : Search) (cs : List Block) (e : Search)
    → Beginning notion t h f nowhere s → Blocks t h s cs e → SearchPromise notion t h f cs e
search_promise notion t h f s cs e (Beginning.begun so allowed limits going zero x) blocks =
    let y = follow notion t h f so allowed [] s cs e limits (λ u. absent going u) x blocks in
    record { answered = y.answered; searched = y.searched }

refused_unusable : (notion : Notion) (t : List ℕ) (h : Header) (f : Further) (n : ℕ) (s : Search) → Beginning notion t h f (refused n) s
    → Unusable s.estimator
refused_unusable notion t h f n s (Beginning.malformed bad out) = out
refused_unusable notion t h f n s (Beginning.too_many_secrets so many out) = out
refused_unusable notion t h f n s (Beginning.look_back_too_large so few large out) = out

-- what a refused beginning hands back is no search: every block offered to it, with every table and header, gets 9
pub refused_search : (notion : Notion) (t : List ℕ) (h : Header) (f : Further) (n : ℕ) (s : Search) → Beginning notion t h f (refused n) s
    → (t' : List ℕ) (h' : Header) (bytes : List ℕ) (says : Said) (m : Search) → Advancing t' h' s bytes says m → says ≡ refused 9
refused_search notion t h f n s x t' h' bytes says m (Advancing.malformed bad) = refl
refused_search notion t h f n s x t' h' bytes says m (Advancing.searched within on) =
    absurd (never_within t' h' s.estimator (refused_unusable notion t h f n s x) within.well_formed within.limits)
