-- A search for the first leak over blocks of bytes: what it holds, and what beginning it and one more block give.
use Rattle.std.specs.Prelude.{◌≡◌, Bool, true, false, List, [], ◌++◌, ℕ, ◌+◌, ◌≤◌, ◌<◌, ◌^◌, length}
use Rattle.lists.specs.Calls.{Every}
use Rattle.automaton.specs.Run.{automaton_of, Observable, WellFormed}
use Rattle.automaton.specs.declared.Header.{Header}
use Rattle.opacity.specs.declared.Notion.{Notion}
use Rattle.opacity.specs.declared.Further.{Further}
use Rattle.opacity.specs.Secrets.{secrets_of, cleared_of, Allowed, TooLarge}
use Rattle.verifier.specs.Estimators.{InLimits, GrownOn}
use Rattle.verifier.specs.Replies.{Unusable}
use Rattle.leaks.specs.FirstLeaks.{AcceptedPart, NoneBelow, FirstLeak, Said, refused, nowhere, at}
use Rattle.leaks.specs.declared.Search.{Search}

-- after these bytes no accepted event has leaked: the estimator has grown by the accepted ones, which are counted
pub record NotFound (notion : Notion) (t : List ℕ) (h : Header) (f : Further) (bytes : List ℕ) (s : Search) : Type 0 where
  pub trace : List ℕ
  pub part : AcceptedPart t h f [] bytes trace
  pub grown : GrownOn t h trace s.estimator
  pub counted : s.accepted ≡ length trace
  pub none_leaks : NoneBelow notion (automaton_of t h) (secrets_of h f) trace (length trace + 1)

-- what a search by a notion and with further secrets holds after these bytes: no leak yet, or the first among them is found
pub record Searched (notion : Notion) (t : List ℕ) (h : Header) (f : Further) (bytes : List ℕ) (s : Search) : Type 0 where
  pub by : s.notion ≡ notion
  pub same : s.estimator.further ≡ cleared_of f
  pub not_found : s.found ≡ false → NotFound notion t h f bytes s
  pub found : s.found ≡ true → FirstLeak notion t h f bytes s.accepted

-- what it says
abbrev pub found_said : Bool → ℕ → Said
found_said false n = nowhere
found_said true n = at n

abbrev pub said_of : Search → Said
said_of s = found_said s.found s.accepted

-- within its limits for so many bytes more: the estimator is; a leak that is found has a place, from 1; and unless it is found the accepted events, if all of
-- the bytes were among them, can be counted
pub record Within (t : List ℕ) (h : Header) (s : Search) (more : ℕ) : Type 0 where
  pub well_formed : WellFormed t h
  pub limits : InLimits h s.estimator
  pub placed : s.found ≡ true → 1 ≤ s.accepted
  pub countable : s.found ≡ false → s.accepted + more < 2 ^ 64

-- a search of no byte yet: refused as a fresh estimator is, and then it is outside its limits on every automaton
pub data Beginning (notion : Notion) (t : List ℕ) (h : Header) (f : Further) : Said → Search → Type 0 where
  malformed : {s : Search} → (WellFormed t h → ⊥) → Unusable s.estimator → Beginning notion t h f (refused 9) s
  too_many_secrets : {s : Search} → WellFormed t h → 3 < f.count → Unusable s.estimator → Beginning notion t h f (refused 13) s
  look_back_too_large : {s : Search} → WellFormed t h → f.count ≤ 3 → TooLarge f → Unusable s.estimator → Beginning notion t h f (refused 14) s
  begun : {s : Search} → WellFormed t h → Allowed f → InLimits h s.estimator → s.found ≡ false → s.accepted ≡ 0 → Searched notion t h f [] s
      → Beginning notion t h f nowhere s

-- a search after one block more. Of one that no bytes lead to only this is said: the notion and the further secrets stay, it is within its limits, it counts
-- at most as many events more as the block has bytes, and bytes that are no observable symbols leave it as it was
pub record SearchedOn (t : List ℕ) (h : Header) (self : Search) (bytes : List ℕ) (s : Search) : Type 0 where
  pub by : s.notion ≡ self.notion
  pub same : s.estimator.further ≡ self.estimator.further
  pub limits : InLimits h s.estimator
  pub placed : s.found ≡ true → 1 ≤ s.accepted
  pub fewest : self.accepted ≤ s.accepted
  pub most : s.accepted ≤ self.accepted + length bytes
  pub unobserved : Every (λ b. Observable h b → ⊥) bytes → s ≡ self
  -- the leak that is found stays found
  pub stays : self.found ≡ true → s ≡ self
  -- of one that some bytes lead to: what it holds after these and the block
  pub exact : (notion : Notion) (f : Further) (before : List ℕ) → Searched notion t h f before self → Searched notion t h f (before ++ bytes) s

-- a block offered to a search: 9 where it is outside its limits, which leaves it as it was; else what it has found then
pub data Advancing (t : List ℕ) (h : Header) (self : Search) (bytes : List ℕ) : Said → Search → Type 0 where
  malformed : (Within t h self (length bytes) → ⊥) → Advancing t h self bytes (refused 9) self
  searched : {s : Search} → Within t h self (length bytes) → SearchedOn t h self bytes s → Advancing t h self bytes (said_of s) s
