-- THE MISSION'S SECOND POINT: the verifier's verdicts, over any list of offered bytes.
use Rattle.std.specs.Prelude.{◌≡◌, List, ℕ}
use Rattle.automaton.specs.Run.{Automaton}
use Rattle.automaton.specs.declared.Header.{Header}
use Rattle.opacity.specs.declared.Further.{Further}
use Rattle.verifier.specs.declared.Estimator.{Estimator}
use Rattle.verifier.specs.Estimators.{Grown}
use Rattle.verifier.specs.Replies.{Findings, verdicts, Opening}
use Rattle.verifier.specs.Calls.{Call, Calls, VerifierPromise}

-- a fresh estimator that was not refused, and any list of calls: the opening and each accepted byte get the verdicts of the definition, two for each secret by
-- its own K, and the number of possible states; each refusal is the table's
abbrev pub SecondPoint : Type 0
SecondPoint = (t : List ℕ) (h : Header) (f : Further) (j : Findings) (s : Estimator) (cs : List Call) (e : Estimator) → Opening t h f (verdicts j) s
    → Calls t h s cs e → VerifierPromise t h f j cs e

-- what a trace leads to is one estimator, so that whatever was refused on the way left nothing behind
abbrev pub OneEstimator : Type 0
OneEstimator = (p : Automaton) (K : ℕ) (trace : List ℕ) (s r : Estimator) → s.further ≡ r.further → Grown p K trace s → Grown p K trace r → s ≡ r
