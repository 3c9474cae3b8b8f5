-- Two lists of offers under headers that are the same but for symbols (02, S-2), offer by offer.
use Rattle.std.specs.Prelude.{◌≡◌, List, ℕ, length, take}
use Rattle.automaton.specs.Run.{Automaton, automaton_of}
use Rattle.automaton.specs.Symbols.{symbols_of, SameByte, SameEvents, Pairs}
use Rattle.automaton.specs.declared.Header.{Header}
use Rattle.enforcer.specs.Offers.{Offer, Offers, accepted_of, count_by, released_count, released_of}
use Rattle.enforcer.specs.declared.Enforcer.{Enforcer}

-- two offers of the same: such bytes, and outputs of one length
pub record SameOffered (t : List ℕ) (h h' : Header) (o o' : Offer) : Type 0 where
  pub bytes : SameByte t h h' o.byte o'.byte
  pub outputs : length o.output ≡ length o'.output

-- two offers with the same answer: both refused with the same number, or both accepted with as many events released, which are the same events, and
-- as many states possible
pub record SameAnswered (p q : Automaton) (o o' : Offer) : Type 0 where
  pub says : o.says ≡ o'.says
  pub released : SameEvents p q (take (count_by o.says) o.left) (take (count_by o'.says) o'.left)

-- what corresponds after two lists of offers: each answer, the accepted events, and the released ones with their number
pub record Corresponds (p q : Automaton) (os os' : List Offer) : Type 0 where
  pub answers : Pairs (SameAnswered p q) os os'
  pub accepted : SameEvents p q (accepted_of os) (accepted_of os')
  pub released : SameEvents p q (released_of os) (released_of os')
  pub counts : released_count os ≡ released_count os'

-- whatever offers follow to two enforcers, they correspond, and what the first accepts and releases is the symbols of what the second, without symbols, does
abbrev pub OffersFollow : List ℕ → Header → Header → Enforcer → Enforcer → Type 0
OffersFollow t h h' s s' = (os os' : List Offer) (e e' : Enforcer) → Pairs (SameOffered t h h') os os' → Offers t h s os e → Offers t h' s' os' e'
    → Corresponds (automaton_of t h) (automaton_of t h') os os'
    × (accepted_of os ≡ symbols_of (automaton_of t h) (accepted_of os')) × (released_of os ≡ symbols_of (automaton_of t h) (released_of os'))
