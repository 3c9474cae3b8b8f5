-- Two lists of calls under headers that are the same but for symbols (02, S-2), call by call.
use Rattle.std.specs.Prelude.{◌≡◌, List, ℕ}
use Rattle.automaton.specs.Run.{Automaton, automaton_of}
use Rattle.automaton.specs.Symbols.{symbols_of, SameByte, SameEvents, Pairs}
use Rattle.automaton.specs.declared.Header.{Header}
use Rattle.verifier.specs.Calls.{Call, Calls, accepted_of}
use Rattle.verifier.specs.declared.Estimator.{Estimator}

-- two calls with bytes that correspond
abbrev pub SameCalled : List ℕ → Header → Header → Call → Call → Type 0
SameCalled t h h' c c' = SameByte t h h' c.byte c'.byte

-- two calls with the same answer: both refused with the same number, or both accepted with the same verdicts and number of possible states
abbrev pub SameAnswered : Call → Call → Type 0
SameAnswered c c' = c.says ≡ c'.says

-- what corresponds after two lists of calls: each answer, and the accepted events
pub record Corresponds (p q : Automaton) (cs cs' : List Call) : Type 0 where
  pub answers : Pairs SameAnswered cs cs'
  pub accepted : SameEvents p q (accepted_of cs) (accepted_of cs')

-- whatever calls follow on two estimators, they correspond, and what the first accepts is the symbols of what the second, without symbols, accepts
abbrev pub CallsFollow : List ℕ → Header → Header → Estimator → Estimator → Type 0
CallsFollow t h h' s s' = (cs cs' : List Call) (e e' : Estimator) → Pairs (SameCalled t h h') cs cs' → Calls t h s cs e → Calls t h' s' cs' e'
    → Corresponds (automaton_of t h) (automaton_of t h') cs cs' × (accepted_of cs ≡ symbols_of (automaton_of t h) (accepted_of cs'))
