-- THE MISSION'S THIRD POINT: what the enforcer releases, over any list of offers.
use Rattle.std.specs.Prelude.{◌≡◌, List, ◌↔◌, ℕ, ◌≤◌, length}
use Rattle.automaton.specs.Run.{Automaton}
use Rattle.automaton.specs.declared.Header.{Header}
use Rattle.opacity.specs.declared.Notion.{Notion}
use Rattle.opacity.specs.declared.Secret.{Secret}
use Rattle.opacity.specs.declared.Further.{Further}
use Rattle.opacity.specs.Secrets.{cleared_of}
use Rattle.enforcer.specs.declared.Enforcer.{Enforcer}
use Rattle.enforcer.specs.SafePrefix.{SafeForAll, UnsafeForSome}
use Rattle.enforcer.specs.Offerings.{started, Starting}
use Rattle.enforcer.specs.Offers.{Offer, Offers, accepted_of, EnforcerPromise}

-- an enforcer that a start has handed back, under either notion, and any list of offers: one record with a field for each sentence
abbrev pub ThirdPoint : Type 0
ThirdPoint = (notion : Notion) (t : List ℕ) (h : Header) (f : Further) (s : Enforcer) (os : List Offer) (e : Enforcer) → Starting t h f notion started s
    → Offers t h s os e → EnforcerPromise notion t h f os e

-- a reader of a prefix is sure of some secret exactly when the prefix is not safe for all
abbrev pub SureExactly : Type 0
SureExactly = (notion : Notion) (p : Automaton) (cs : List Secret) (first : List ℕ) (n : ℕ) → length first ≤ n
    → UnsafeForSome notion p cs first n ↔ (SafeForAll notion p cs first n → ⊥)

-- enforcers that have accepted the same are the same, whatever was refused between
abbrev pub OneEnforcer : Type 0
OneEnforcer = (notion : Notion) (t : List ℕ) (h : Header) (f f' : Further) (s s' : Enforcer) (os os' : List Offer) (e e' : Enforcer)
    → cleared_of f ≡ cleared_of f' → Starting t h f notion started s → Offers t h s os e → Starting t h f' notion started s' → Offers t h s' os' e'
    → accepted_of os ≡ accepted_of os' → e ≡ e'
