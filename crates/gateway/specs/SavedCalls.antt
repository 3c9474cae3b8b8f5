-- A gateway that keeps a table, a header and a state as bytes, and passes each call the state's bytes as the call before left them. The promises of the
-- verifier and the enforcer, of lists of calls on their own states, are kept for it: proofs/SavedPoints; what an exploration says of it: proofs/SavedWaits;
-- what is said of witnesses after calls that led to a state: proofs/SavedWitnesses.
use Rattle.std.specs.Prelude.{ℕ, zero, suc, ◌+◌, ◌≤◌, ◌<◌, Bool, true, false, ◌≡◌, List, [], ◌∷◌, ◌++◌, eqb, length}
use Rattle.lists.specs.Calls.{Chain, joined}
use Rattle.verifier.specs.Replies as verifier
use Rattle.verifier.specs.Calls.{Call}
use Rattle.enforcer.specs.Offerings as offering
use Rattle.enforcer.specs.Offers as enforcer
use Rattle.witness.specs.Answers as witness
use Rattle.layout.specs.Sizes.{judgement_size, release_size}
use Rattle.layout.specs.Layout.{judgement_at, release_at, start_at, pairs_at, valid_at}
use Rattle.gateway.specs.Interface.{Accept, Offer, valid_said}

-- one call of accept: the symbol, the bytes lent for the judgement, the answer, and those bytes after it
pub record AcceptCall : Type 0 where
  pub symbol : ℕ
  pub lent : List ℕ
  pub answer : ℕ
  pub told : List ℕ

-- one call, by the contract of `opacity_accept`; and calls, one after another, each on the estimator's bytes that the one before it left
abbrev pub AcceptCalled : (t header : List ℕ) → List ℕ → AcceptCall → List ℕ → Type 0
AcceptCalled t header s c m = Accept t header c.symbol s c.lent c.answer m c.told

abbrev pub AcceptCalls : (t header : List ℕ) → List ℕ → List AcceptCall → List ℕ → Type 0
AcceptCalls t header s cs e = Chain (AcceptCalled t header) s cs e

-- what an answer says: 0 that the bytes hold the verdicts and the number, and else the number of a refusal
abbrev pub accept_said : (given : ℕ) → ℕ → List ℕ → verifier.Said
accept_said given zero told = verifier.verdicts (judgement_at given told)
accept_said given (suc n) told = verifier.refused (suc n)

-- a call that lent as many bytes as are written is one of the verifier or the enforcer; any other got 9 for its slices, and offered nothing
abbrev pub listed_if : {A : Type 0} → Bool → A → List A
listed_if true a = a ∷ []
listed_if false a = []

-- what was offered and said, as the verifier's promise has it
abbrev pub call_of : (given : ℕ) → AcceptCall → List Call
call_of given c = listed_if (eqb (length c.lent) judgement_size) (record { byte = c.symbol; says = accept_said given c.answer c.told })

abbrev pub calls_of : (given : ℕ) → List AcceptCall → List Call
calls_of given cs = joined (call_of given) cs

-- one call of offer: the symbol, the output and the bytes lent for the release, the answer, and both after it
pub record OfferCall : Type 0 where
  pub symbol : ℕ
  pub output : List ℕ
  pub lent : List ℕ
  pub answer : ℕ
  pub left : List ℕ
  pub release : List ℕ

-- one call, by the contract of `opacity_offer`; and calls, one after another, each on the enforcer's bytes that the one before it left
abbrev pub OfferCalled : (t header : List ℕ) → List ℕ → OfferCall → List ℕ → Type 0
OfferCalled t header s c m = Offer t header c.symbol s c.output c.lent c.answer m c.left c.release

abbrev pub OfferCalls : (t header : List ℕ) → List ℕ → List OfferCall → List ℕ → Type 0
OfferCalls t header s cs e = Chain (OfferCalled t header) s cs e

-- what an answer says: 0 that the bytes are the number of released symbols and that of possible states, and else the number of a refusal
abbrev pub offer_said : ℕ → List ℕ → offering.OfferOutcome
offer_said zero release = offering.released (release_at release)
offer_said (suc n) release = offering.refused (suc n)

-- what was offered, said and left, as the enforcer's promise has it
abbrev pub offer_of : OfferCall → List enforcer.Offer
offer_of c =
    listed_if (eqb (length c.lent) release_size)
    (record { byte = c.symbol; output = c.output; says = offer_said c.answer c.release; left = c.left })

abbrev pub offers_of : List OfferCall → List enforcer.Offer
offers_of cs = joined offer_of cs

-- the longest wait of an enforcer that a start has left in bytes (waiting/specs/LongestWaits), over calls on these bytes. Symbols that it accepts, of which the
-- last one is still pending after every way to go on by fewer than w accepted ones:
pub record SavedPending (t header s : List ℕ) (w : ℕ) : Type 0 where
  pub trace : List ℕ
  -- there are calls of which these are accepted,
  pub calls : List OfferCall
  pub end : List ℕ
  pub called : OfferCalls t header s calls end
  pub accepted : enforcer.accepted_of (offers_of calls) ≡ trace
  -- and after all such calls, whatever others follow, so long as fewer than w are accepted, the last one is not released
  pub pending : (cs later : List OfferCall) (m e : List ℕ) → OfferCalls t header s cs m → enforcer.accepted_of (offers_of cs) ≡ trace
      → OfferCalls t header m later e
      → length (enforcer.accepted_of (offers_of later)) < w → enforcer.released_count (offers_of (cs ++ later)) < length trace

pub record SavedLongestWait (t header s : List ℕ) (w : ℕ) : Type 0 where
  pub in_time : (cs : List OfferCall) (e : List ℕ) → OfferCalls t header s cs e → (i : ℕ) → suc i + w ≤ length (enforcer.accepted_of (offers_of cs))
      → i < enforcer.released_count (offers_of cs)
  pub reached : 0 < w → SavedPending t header s w

-- what an answer of witness says: 0 that a run was written, with the start and the number of pairs that its bytes hold, and else the number of a refusal
abbrev pub witness_said : ℕ → (run : List ℕ) → witness.Told
witness_said zero run = witness.Told.written (start_at run) (pairs_at run)
witness_said (suc n) run = witness.Told.refused (suc n)

-- and one of check_witness: 0 that the byte holds yes or no
abbrev pub check_said : ℕ → (valid : List ℕ) → witness.Says
check_said zero valid = valid_said (valid_at valid)
check_said (suc n) valid = witness.Says.refused (suc n)
