-- A log's event bytes, followed read after read. No contract says which bytes a system call brings: the bytes of a read are those at the front of the lent
-- input after it, as many as it answered. That they are the input's is tested.
use Rattle.std.specs.Prelude.{◌≡◌, List, [], ◌++◌, ℕ, ◌+◌, ◌≤◌, length}
use Rattle.automaton.specs.Run.{WellFormed}
use Rattle.automaton.specs.declared.Header.{Header}
use Rattle.opacity.specs.Secrets.{no_further}
use Rattle.verifier.specs.Estimators.{GrownOn}
use Rattle.leaks.specs.FirstLeaks.{AcceptedPart}
use Rattle.witness_log.specs.declared.Followed.{Followed}

-- after these event bytes: the estimator has grown by the accepted ones, which are counted, and holds no further secret
pub record After (t : List ℕ) (h : Header) (bytes : List ℕ) (f : Followed) : Type 0 where
  pub trace : List ℕ
  pub part : AcceptedPart t h no_further [] bytes trace
  pub grown : GrownOn t h trace f.estimator
  pub counted : f.accepted ≡ length trace
  pub alone : f.estimator.further ≡ no_further

-- some bytes more, on an automaton
pub record On (t : List ℕ) (h : Header) (s : Followed) (bytes : List ℕ) (f : Followed) : Type 0 where
  pub few : f.accepted ≤ s.accepted + length bytes
  pub exact : WellFormed t h → (before : List ℕ) → After t h before s → After t h (before ++ bytes) f
