-- The mission's third point: an enforcer that a start has handed back and a list of offers, refused ones among them.
use Rattle.std.specs.Prelude.{◌≡◌, List, [], ◌∷◌, ◌++◌, ℕ, suc, ◌+◌, ◌≤◌, ◌<◌, length, take}
use Rattle.lists.specs.Calls.{Chain, joined, offered, Every, total, Each}
use Rattle.automaton.specs.Run.{automaton_of, Possible, Impossible, Observable}
use Rattle.automaton.specs.declared.Header.{Header}
use Rattle.opacity.specs.declared.Notion.{Notion}
use Rattle.opacity.specs.declared.Further.{Further}
use Rattle.opacity.specs.Secrets.{secrets_of, look_back_of, cleared_of}
use Rattle.automaton.specs.Reaching.{RightSize}
use Rattle.enforcer.specs.SafePrefix.{SafeForAll, SafeForAllByRuns, UnsafeForSome}
use Rattle.enforcer.specs.Enforcers.{GrownOn}
use Rattle.enforcer.specs.Offerings.{OfferOutcome, refused, released, Offering}
use Rattle.enforcer.specs.declared.Enforcer.{Enforcer}

-- one offer of a list: the byte and the output that were passed, what was answered, and the output as the offer left it
pub record Offer : Type 0 where
  pub byte : ℕ
  pub output : List ℕ
  pub says : OfferOutcome
  pub left : List ℕ

-- one offer, by the contract of `offer`; and offers, one after another, each to the enforcer that the one before it handed back
abbrev pub Offered : List ℕ → Header → Enforcer → Offer → Enforcer → Type 0
Offered t h s o m = Offering t h s o.byte o.output o.says m o.left

abbrev pub Offers : List ℕ → Header → Enforcer → List Offer → Enforcer → Type 0
Offers t h s os e = Chain (Offered t h) s os e

abbrev pub taken_by : OfferOutcome → ℕ → List ℕ
taken_by (refused n) b = []
taken_by (released r) b = b ∷ []

abbrev pub taken_of : Offer → List ℕ
taken_of o = taken_by o.says o.byte

-- the bytes whose offers were not refused
abbrev pub accepted_of : List Offer → List ℕ
accepted_of os = joined taken_of os

-- all bytes that were offered
abbrev pub offered_of : List Offer → List ℕ
offered_of os = offered (λ o. o.byte) os

-- with outputs of 17 bytes at least
abbrev pub Roomy : List Offer → Type 0
Roomy os = Every (λ o. 17 ≤ length o.output) os

abbrev pub count_by : OfferOutcome → ℕ
count_by (refused n) = 0
count_by (released r) = r.count

abbrev pub count_of : Offer → ℕ
count_of o = count_by o.says

-- the sum of the released counts
abbrev pub released_count : List Offer → ℕ
released_count os = total count_of os

-- the symbols released: the front of each accepting offer's output, joined
abbrev pub released_by : Offer → List ℕ
released_by o = take (count_of o) o.left

abbrev pub released_of : List Offer → List ℕ
released_of os = joined released_by os

-- the refusal table turns a byte back, with this number, after these accepted symbols
pub data TurnedBack (t : List ℕ) (h : Header) (trace : List ℕ) (byte : ℕ) (output : List ℕ) : ℕ → Type 0 where
  output_too_small : length output < 17 → TurnedBack t h trace byte output 10
  not_observable : 17 ≤ length output → (Observable h byte → ⊥) → TurnedBack t h trace byte output 6
  incompatible : 17 ≤ length output → Observable h byte → Impossible (automaton_of t h) (trace ++ byte ∷ []) → TurnedBack t h trace byte output 7

-- it does not
pub record LetThrough (t : List ℕ) (h : Header) (trace : List ℕ) (byte : ℕ) (output : List ℕ) : Type 0 where
  pub room : 17 ≤ length output
  pub observable : Observable h byte
  pub possible : Possible (automaton_of t h) (trace ++ byte ∷ [])

-- the answer to an offer after these accepted symbols: refused exactly where the table turns the byte back; else it is let through, and the number of
-- possible states is the one of the definition, after all accepted symbols
abbrev pub Answered : List ℕ → Header → List ℕ → Offer → OfferOutcome → Type 0
Answered t h trace o (refused n) = TurnedBack t h trace o.byte o.output n
Answered t h trace o (released r) = LetThrough t h trace o.byte o.output × RightSize (automaton_of t h) (trace ++ o.byte ∷ []) r.size

-- each offer of the list, judged with the bytes accepted before it
abbrev pub AllAnswered : List ℕ → Header → List ℕ → List Offer → Type 0
AllAnswered t h trace os = Each taken_of (λ trace o. Answered t h trace o o.says) trace os

-- the mission's third point, after the offers to an enforcer that was started with these further secrets (02, S-6)
pub record EnforcerPromise (notion : Notion) (t : List ℕ) (h : Header) (f : Further) (os : List Offer) (e : Enforcer) : Type 0 where
  -- the accepted symbols (01: events) are exactly the offered bytes that the refusal table does not turn back; the others got the number that the table
  -- gives. Each accepting answer says how many states are then possible (02, S-5)
  pub accepted : AllAnswered t h [] os
  -- the symbols released so far are a prefix of the accepted ones, in their order
  pub prefix : released_of os ≡ take (released_count os) (accepted_of os)
  -- nobody who reads only the released symbols can be sure of any secret, each by its own K: in 01's words, and by runs in hand
  pub safe : SafeForAll notion (automaton_of t h) (secrets_of h f) (released_of os) (length (accepted_of os))
  pub by_runs : SafeForAllByRuns notion (automaton_of t h) (secrets_of h f) (released_of os) (length (accepted_of os))
  -- every longer prefix would have made somebody sure of at least one of them: it is not safe for all in 01's words, and somebody is sure of one
  pub longest : (r : ℕ) → released_count os < r → r ≤ length (accepted_of os)
      → SafeForAll notion (automaton_of t h) (secrets_of h f) (take r (accepted_of os)) (length (accepted_of os)) → ⊥
  pub unsafe : (r : ℕ) → released_count os < r → r ≤ length (accepted_of os)
      → UnsafeForSome notion (automaton_of t h) (secrets_of h f) (take r (accepted_of os)) (length (accepted_of os))
  -- each accepted symbol is released by the time the largest K plus one more are accepted
  pub in_time : (i : ℕ) → suc i + (look_back_of h f + 1) ≤ length (accepted_of os) → i < released_count os
  -- accepted = released + pending
  pub balance : length (accepted_of os) ≡ released_count os + e.count
  -- and the enforcer is the one of the accepted symbols, with the secrets that were given
  pub same : e.estimator.further ≡ cleared_of f
  pub grown : GrownOn notion t h (accepted_of os) e
