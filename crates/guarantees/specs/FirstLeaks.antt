-- THE FIRST LEAK OF A LONG LOG (02, S-8): what its place says of an offered list, of the verifier's calls, and of a list that comes block after block.
use Rattle.std.specs.Prelude.{◌≡◌, List, [], ◌++◌, ℕ, ◌≤◌, length}
use Rattle.automaton.specs.Run.{WellFormed}
use Rattle.automaton.specs.declared.Header.{Header}
use Rattle.opacity.specs.declared.Notion.{Notion}
use Rattle.opacity.specs.declared.Further.{Further}
use Rattle.opacity.specs.Secrets.{no_further, cleared_of}
use Rattle.verifier.specs.declared.Estimator.{Estimator}
use Rattle.verifier.specs.Replies.{Findings, verdicts, Opening}
use Rattle.verifier.specs.Calls.{Call, Calls, accepted_of, offered_of}
use Rattle.monitor.specs.LogText.{Prints}
use Rattle.leaks.specs.declared.Search.{Search}
use Rattle.leaks.specs.FirstLeaks.{AcceptedPart, Said, refused, nowhere, at, Finding}
use Rattle.leaks.specs.Searches.{Beginning, Advancing}
use Rattle.leaks.specs.Blocks.{Block, Blocks, SearchPromise}

-- a table, a header, further secrets, a notion and a list of bytes have one answer
abbrev pub OneFirstLeak : Type 0
OneFirstLeak = (notion : Notion) (t : List ℕ) (h : Header) (f : Further) (bytes : List ℕ) (a b : Said) → Finding notion t h f bytes a
    → Finding notion t h f bytes b → a ≡ b

-- every list has its accepted part, and one only
pub record OnePart (t : List ℕ) (h : Header) (f : Further) (bytes : List ℕ) : Type 0 where
  pub trace : List ℕ
  pub part : AcceptedPart t h f [] bytes trace
  pub only : (other : List ℕ) → AcceptedPart t h f [] bytes other → other ≡ trace

abbrev pub EveryPart : Type 0
EveryPart = (t : List ℕ) (h : Header) (f : Further) → WellFormed t h → (bytes : List ℕ) → OnePart t h f bytes

-- it is what a fresh verifier accepts of them (SecondPoint: and its verdicts after each are those of the definition)
abbrev pub PartByCalls : Type 0
PartByCalls = (t : List ℕ) (h : Header) (f : Further) (j : Findings) (s : Estimator) (cs : List Call) (e : Estimator) → Opening t h f (verdicts j) s
    → Calls t h s cs e → AcceptedPart t h f [] (offered_of cs) (accepted_of cs)

-- and what the log accepts of them: its lines with a place are those of the accepted part (02: "Refused bytes are passed over as the log does")
abbrev pub PartByLog : Type 0
PartByLog = (t : List ℕ) (h : Header) → WellFormed t h → (bytes text trace : List ℕ) (r : ℕ) → Prints t h [] 0 bytes text trace r
    → AcceptedPart t h no_further [] bytes trace

-- what is offered after the event of the first leak has no influence: any two lists that agree up to it, with at least as many accepted events as its place
-- says, get the same answer
abbrev pub LaterBytes : Type 0
LaterBytes = (notion : Notion) (t : List ℕ) (h : Header) (f : Further) (front later other trace : List ℕ) (place : ℕ)
    → Finding notion t h f (front ++ later) (at place) → AcceptedPart t h f [] front trace → place ≤ length trace → (says : Said)
    → Finding notion t h f (front ++ other) says → says ≡ at place

-- a search that was begun, and any list of blocks: each is answered as the question over all bytes up to it, or by 9 exactly where they might not be counted
abbrev pub BlockAfterBlock : Type 0
BlockAfterBlock = (notion : Notion) (t : List ℕ) (h : Header) (f : Further) (s : Search) (cs : List Block) (e : Search) → Beginning notion t h f nowhere s
    → Blocks t h s cs e → SearchPromise notion t h f cs e

-- what a refused beginning hands back is no search: every block offered to it, with every table and header, gets 9
abbrev pub RefusedSearch : Type 0
RefusedSearch = (notion : Notion) (t : List ℕ) (h : Header) (f : Further) (n : ℕ) (s : Search) → Beginning notion t h f (refused n) s → (t' : List ℕ)
    (h' : Header) (bytes : List ℕ) (says : Said) (m : Search) → Advancing t' h' s bytes says m → says ≡ refused 9

-- what stands past the count of further secrets counts for nothing
abbrev pub LeakPastCount : Type 0
LeakPastCount = (f g : Further) → cleared_of f ≡ cleared_of g → (t : List ℕ) (h : Header) (notion : Notion) (bytes : List ℕ) (says : Said)
    → Finding notion t h f bytes says → Finding notion t h g bytes says
