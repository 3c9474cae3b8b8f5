-- A list that is longer than the memory, searched block after block: `begin`, and a call of `advance` for each block, on the search that the call before it
-- handed back.
use Rattle.std.specs.Prelude.{◌≡◌, List, [], ◌++◌, ℕ, ◌+◌, ◌≤◌, ◌^◌, length}
use Rattle.lists.specs.Calls.{Chain, joined, Each}
use Rattle.automaton.specs.declared.Header.{Header}
use Rattle.opacity.specs.declared.Notion.{Notion}
use Rattle.opacity.specs.declared.Further.{Further}
use Rattle.leaks.specs.FirstLeaks.{NoneLeaks, Said, refused, nowhere, at, Finding}
use Rattle.leaks.specs.Searches.{Searched, Advancing}
use Rattle.leaks.specs.declared.Search.{Search}

-- one call: the block, and what was answered
pub record Block : Type 0 where
  pub bytes : List ℕ
  pub says : Said

abbrev pub Advanced : List ℕ → Header → Search → Block → Search → Type 0
Advanced t h s c m = Advancing t h s c.bytes c.says m

abbrev pub Blocks : List ℕ → Header → Search → List Block → Search → Type 0
Blocks t h s cs e = Chain (Advanced t h) s cs e

-- the bytes of a block that was not refused
abbrev pub taken_by : Said → List ℕ → List ℕ
taken_by (refused n) bytes = []
taken_by nowhere bytes = bytes
taken_by (at place) bytes = bytes

abbrev pub taken_of : Block → List ℕ
taken_of c = taken_by c.says c.bytes

-- all bytes of the list so far
abbrev pub whole_of : List Block → List ℕ
whole_of cs = joined taken_of cs

-- no event so far leaks, and those that are accepted and the bytes of the block, also such as stand after its first leak, are together 2 ^ 64 or more
pub record Uncountable (notion : Notion) (t : List ℕ) (h : Header) (f : Further) (before bytes : List ℕ) : Type 0 where
  pub none_leaks : NoneLeaks notion t h f before
  pub many : 2 ^ 64 ≤ length none_leaks.trace + length bytes

-- the answer to a block behind those before it: 9 exactly where they might not be counted; else that to the question over all their bytes in one list
abbrev pub Answered : Notion → List ℕ → Header → Further → (before bytes : List ℕ) → Said → Type 0
Answered notion t h f before bytes (refused n) = (n ≡ 9) × Uncountable notion t h f before bytes
Answered notion t h f before bytes nowhere = (Uncountable notion t h f before bytes → ⊥) × Finding notion t h f (before ++ bytes) nowhere
Answered notion t h f before bytes (at place) = (Uncountable notion t h f before bytes → ⊥) × Finding notion t h f (before ++ bytes) (at place)

-- a search that was begun, and any list of blocks
pub record SearchPromise (notion : Notion) (t : List ℕ) (h : Header) (f : Further) (cs : List Block) (e : Search) : Type 0 where
  -- each block is answered as the question over the whole list up to it
  pub answered : Each taken_of (λ before c. Answered notion t h f before c.bytes c.says) [] cs
  -- the search is the one of all bytes
  pub searched : Searched notion t h f (whole_of cs) e
