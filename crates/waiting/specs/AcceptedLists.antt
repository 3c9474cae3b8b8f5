-- Accepted lists (02, S-7: "every situation that some accepted list leads to"): symbols that calls of a fresh estimator accept, or offers to an enforcer.
use Rattle.std.specs.Prelude.{◌≡◌, List, ℕ}
use Rattle.automaton.specs.declared.Header.{Header}
use Rattle.verifier.specs.declared.Estimator.{Estimator}
use Rattle.verifier.specs.Calls as verifier
use Rattle.verifier.specs.Calls.{Call, Calls}
use Rattle.enforcer.specs.declared.Enforcer.{Enforcer}
use Rattle.enforcer.specs.Offers as enforcer
use Rattle.enforcer.specs.Offers.{Offer, Offers}

-- calls from an estimator on, of which exactly these symbols are accepted
pub record AcceptedFrom (t : List ℕ) (h : Header) (s : Estimator) (symbols : List ℕ) : Type 0 where
  pub calls : List Call
  pub end : Estimator
  pub called : Calls t h s calls end
  pub accepted : verifier.accepted_of calls ≡ symbols

-- offers to an enforcer, of which exactly these symbols are accepted
pub record OfferedFrom (t : List ℕ) (h : Header) (s : Enforcer) (symbols : List ℕ) : Type 0 where
  pub offers : List Offer
  pub end : Enforcer
  pub offered : Offers t h s offers end
  pub accepted : enforcer.accepted_of offers ≡ symbols
