-- The calls of a gateway that keeps bytes are calls of the crates below, each on the state that the call before it handed back. Assumes nothing.
use Prim.Native.Nat.{ℕ, zero, suc, ◌≤◌, ◌<◌}
use mathlib.Core.Path.{◌≡◌, refl, ap, sym, subst, ◌∙◌}
use mathlib.Core.Bool.{Bool, true, false}
use mathlib.Core.List.{List, [], ◌∷◌, ◌++◌}
use borrow.Author.Tests.{eqb-true, eqb-false}
use lib.Dec.{eqb}
use native.Mathlib.Omega.{arith}
use lib.ListN.{length, get_or}
use lib.Seq.{get_or-take, length-take-le}
use Rattle.opacity.specs.Verdicts.{Bounded}
use Rattle.lists.specs.Calls.{done, next}
use Rattle.automaton.specs.declared.Header.{Header}
use Rattle.opacity.specs.declared.Notion.{Notion}
use Rattle.opacity.specs.declared.Notion.TheVariants.{Weak, Strong}
use Rattle.opacity.specs.declared.Further.{Further}
use Rattle.verifier.specs.declared.Estimator.{Estimator}
use Rattle.opacity.specs.Secrets.{secrets_of}
use Rattle.verifier.specs.Replies as verifier
use Rattle.verifier.specs.Replies.{Told, Findings, none_told, steps_by, told_at, Accepting}
use Rattle.verifier.specs.Calls.{Calls}
use Rattle.opacity.proofs.Numbering.{look_back_small, secret_back, how_many}
use Rattle.verifier.proofs.Judging.{bounded_up}
use Rattle.verifier.proofs.Corresponding.{same_told}
use Rattle.enforcer.specs.declared.Enforcer.{Enforcer}
use Rattle.enforcer.specs.Offerings as offering
use Rattle.enforcer.specs.Offerings.{Offering}
use Rattle.enforcer.specs.Offers.{Offers}
use Rattle.layout.specs.Sizes.{header_size, estimator_size, strong_byte, notion_place, enforcer_size, judgement_size, release_size}
use Rattle.layout.specs.Layout.{header_at, estimator_at, enforcer_at, verdict_at, verdict_byte, judgement_bytes, verdicts_at}
use Rattle.gateway.specs.Interface.{Accept, Offer}
use Rattle.gateway.specs.SavedCalls.{AcceptCall, AcceptCalled, AcceptCalls, accept_said, listed_if, calls_of, OfferCall, OfferCalled, OfferCalls}
use Rattle.gateway.specs.SavedCalls.{offer_said, offers_of}
use Rattle.layout.proofs.Inverse.{verdict_back}

-- the judgement that was written is the one that is read: two verdicts for each secret that is given, none past 15 steps
module _ (j : Findings) (given : ℕ) (few : given ≤ 3) (many : length j.each ≡ suc given)
    (bounded : (notion : Notion) (i : ℕ) → i < length j.each → Bounded 15 (told_at notion j.each i)) where
  abbrev read : ℕ → Told
  read i = record { weak = verdict_at (verdict_byte (get_or j.each i none_told).weak); strong = verdict_at (verdict_byte (get_or j.each i none_told).strong) }

  at_place : (i : ℕ) → i < 4 → get_or (read 0 ∷ read 1 ∷ read 2 ∷ read 3 ∷ []) i none_told ≡ read i
  at_place zero h = refl
  at_place (suc zero) h = refl
  at_place (suc (suc zero)) h = refl
  at_place (suc (suc (suc zero))) h = refl
  at_place (suc (suc (suc (suc i)))) h = absurd (omega arith)

  one_back : (notion : Notion) (i : ℕ) → i < length j.each → steps_by notion (read i) ≡ told_at notion j.each i
  one_back Weak i h = verdict_back 15 _ (omega arith) (bounded Weak i h)
  one_back Strong i h = verdict_back 15 _ (omega arith) (bounded Strong i h)

  pub told_back : accept_said given 0 (judgement_bytes j) ≡ verifier.verdicts j
  told_back =
      let size : length (verdicts_at given (judgement_bytes j)) ≡ suc given = length-take-le (suc given) (read 0 ∷ read 1 ∷ read 2 ∷ read 3 ∷ []) (omega arith) in
      ap (λ (x : List Told). verifier.verdicts (record { each = x; size = j.size }))
      (same_told (verdicts_at given (judgement_bytes j)) j.each (size ∙ sym many) (λ notion i h.
      ap (steps_by notion) (get_or-take (suc given) (read 0 ∷ read 1 ∷ read 2 ∷ read 3 ∷ []) i none_told (omega (arith, size)) ∙ at_place i (omega (arith, size)))
      ∙ one_back notion i (omega (arith, size))))

module _ (t header : List ℕ) (header-size : length header ≡ header_size) where
  abbrev pub head : Header
  head = header_at header

  -- a refusal has no number 0, and leaves the estimator
  refused_accept : (self : Estimator) (symbol given : ℕ) (told : List ℕ) {n : ℕ} {after : Estimator} → Accepting t head self symbol (verifier.refused n) after
      → Accepting t head self symbol (accept_said given n told) self
  refused_accept self symbol given told (Accepting.malformed bad) = Accepting.malformed bad
  refused_accept self symbol given told (Accepting.not_observable so li never) = Accepting.not_observable so li never
  refused_accept self symbol given told (Accepting.incompatible so li ob none) = Accepting.incompatible so li ob none

  -- an accepted answer is read as it was written
  accepted_back : (self s : Estimator) (symbol : ℕ) (j : Findings) → Accepting t head self symbol (verifier.verdicts j) s
      → (accept_said self.further.count 0 (judgement_bytes j) ≡ verifier.verdicts j) × (s.further ≡ self.further)
  accepted_back self s symbol j (Accepting.accepted so li ob same after many bounded within exact) =
      let few = li.allowed.few in
      let small = look_back_small head self.further so.back li.allowed in (
        told_back j self.further.count few (many ∙ how_many head self.further few) (λ notion i h.
            let given : i < length (secrets_of head self.further) = omega (arith, many) in
            bounded_up _ 15 (told_at notion j.each i) (omega (arith, secret_back head self.further i given, small)) (bounded notion i given)),
        same,
      )

  -- one call of accept, on bytes that keep these further secrets
  record OneAccept (kept : Further) (s : List ℕ) (symbol answer : ℕ) (m told : List ℕ) : Type 0 where
    accepting : Accepting t head (estimator_at s) symbol (accept_said kept.count answer told) (estimator_at m)
    size : length m ≡ estimator_size
    same : (estimator_at m).further ≡ kept

  one_accept : (kept : Further) (s : List ℕ) (symbol : ℕ) (lent : List ℕ) (answer : ℕ) (m told : List ℕ) → length s ≡ estimator_size
      → (estimator_at s).further ≡ kept → length lent ≡ judgement_size
      → Accept t header symbol s lent answer m told → OneAccept kept s symbol answer m told
  one_accept kept s symbol lent answer m told k same nine (Accept.size bad) = absurd
      (bad (record { header-size = header-size; estimator-size = k; judgement-size = nine }))
  one_accept kept s symbol lent answer m told k same nine (Accept.refused sizes x) =
      record { accepting = refused_accept (estimator_at s) symbol kept.count lent x; size = k; same = same }
  one_accept kept s symbol lent answer m told k same nine (Accept.accepted sizes {j = j} {s = after} x saved) =
      let y = accepted_back (estimator_at s) after symbol j x in
      let reads : accept_said kept.count 0 (judgement_bytes j) ≡ verifier.verdicts j =
      subst (λ (f : Further). accept_said f.count 0 (judgement_bytes j) ≡ verifier.verdicts j) same y.0 in
      record {
        accepting =
            subst (λ (e : Estimator). Accepting t head (estimator_at s) symbol (accept_said kept.count 0 (judgement_bytes j)) e) (sym saved.back)
            (subst (λ (r : verifier.Said). Accepting t head (estimator_at s) symbol r after) (sym reads) x);
        size = saved.size;
        same = ap (λ (e : Estimator). e.further) saved.back ∙ y.1 ∙ same;
      }

  -- one that lends another number of bytes for the judgement
  unsized_accept : (s : List ℕ) (symbol : ℕ) (lent : List ℕ) (answer : ℕ) (m told : List ℕ) → (length lent ≡ judgement_size → ⊥)
      → Accept t header symbol s lent answer m told → m ≡ s
  unsized_accept s symbol lent answer m told n (Accept.size bad) = refl
  unsized_accept s symbol lent answer m told n (Accept.refused sizes x) = refl
  unsized_accept s symbol lent answer m told n (Accept.accepted sizes x saved) = absurd (n sizes.judgement-size)

  -- a call in front of others: listed, or of other slices
  first_accept : (kept : Further) (s : List ℕ) (c : AcceptCall) (m : List ℕ) (rest : List AcceptCall) (e : List ℕ) → length s ≡ estimator_size
      → (estimator_at s).further ≡ kept → AcceptCalled t header s c m
      → (length m ≡ estimator_size → (estimator_at m).further ≡ kept → Calls t head (estimator_at m) (calls_of kept.count rest) (estimator_at e))
      → (b : Bool) → eqb (length c.lent) judgement_size ≡ b
      → Calls t head (estimator_at s) (listed_if b (record { byte = c.symbol; says = accept_said kept.count c.answer c.told }) ++ calls_of
      kept.count rest) (estimator_at e)
  first_accept kept s c m rest e k same a later true is =
      let x = one_accept kept s c.symbol c.lent c.answer m c.told k same (eqb-true _ _ is) a in
      next x.accepting (later x.size x.same)
  first_accept kept s c m rest e k same a later false is =
      let at = unsized_accept s c.symbol c.lent c.answer m c.told (eqb-false _ _ is) a in
      subst (λ (y : List ℕ). Calls t head (estimator_at y) (calls_of kept.count rest) (estimator_at e)) at
      (later (subst (λ (y : List ℕ). length y ≡ estimator_size) (sym at) k) (subst (λ (y : List ℕ). (estimator_at y).further ≡ kept) (sym at) same))

  pub accept_calls : (kept : Further) (s : List ℕ) (cs : List AcceptCall) (e : List ℕ) → length s ≡ estimator_size → (estimator_at s).further ≡ kept
      → AcceptCalls t header s cs e → Calls t head (estimator_at s) (calls_of kept.count cs) (estimator_at e)
  accept_calls kept s cs e k same done = done
  accept_calls kept s cs e k same (next {m = m} {c = c} {cs = rest} a f) =
      first_accept kept s c m rest e k same a (λ k' same'. accept_calls kept m rest e k' same' f) (eqb (length c.lent) judgement_size) refl

  -- bytes of the length of an enforcer, with a notion
  pub record KeepsEnforcer (s : List ℕ) : Type 0 where
    pub size : length s ≡ enforcer_size
    pub known : get_or s notion_place 0 ≤ strong_byte

  -- a refusal has no number 0, and leaves the enforcer
  refused_offer : (self : Enforcer) (symbol : ℕ) (output release : List ℕ) {n : ℕ} {after : Enforcer} {left : List ℕ}
      → Offering t head self symbol output (offering.refused n) after left
      → Offering t head self symbol output (offer_said n release) self left
  refused_offer self symbol output release (Offering.malformed bad) = Offering.malformed bad
  refused_offer self symbol output release (Offering.output_too_small so li few) = Offering.output_too_small so li few
  refused_offer self symbol output release (Offering.not_observable so li wide never) = Offering.not_observable so li wide never
  refused_offer self symbol output release (Offering.incompatible so li wide ob none) = Offering.incompatible so li wide ob none

  -- one call of offer
  record OneOffer (s : List ℕ) (symbol : ℕ) (output : List ℕ) (answer : ℕ) (m left release : List ℕ) : Type 0 where
    offering : Offering t head (enforcer_at s) symbol output (offer_said answer release) (enforcer_at m) left
    keeps : KeepsEnforcer m

  one_offer : (s : List ℕ) (symbol : ℕ) (output lent : List ℕ) (answer : ℕ) (m left release : List ℕ) → KeepsEnforcer s → length lent ≡ release_size
      → Offer t header symbol s output lent answer m left release → OneOffer s symbol output answer m left release
  one_offer s symbol output lent answer m left release k two (Offer.size bad) =
      absurd (bad (record { header-size = header-size; enforcer-size = k.size; notion_known = k.known; release-size = two }))
  one_offer s symbol output lent answer m left release k two
      (Offer.refused sizes x) = record { offering = refused_offer (enforcer_at s) symbol output lent x; keeps = k }
  one_offer s symbol output lent answer m left release k two
      (Offer.released sizes (Offering.accepted so li wide ob same after bal front rest within exact) saved) =
      record {
        offering = rw saved.back (Offering.accepted so li wide ob same after bal front rest within exact);
        keeps = record
            { size = saved.size; known = saved.notion_known };
      }

  -- one that lends another number of bytes for the release
  unsized_offer : (s : List ℕ) (symbol : ℕ) (output lent : List ℕ) (answer : ℕ) (m left release : List ℕ) → (length lent ≡ release_size → ⊥)
      → Offer t header symbol s output lent answer m left release → m ≡ s
  unsized_offer s symbol output lent answer m left release n (Offer.size bad) = refl
  unsized_offer s symbol output lent answer m left release n (Offer.refused sizes x) = refl
  unsized_offer s symbol output lent answer m left release n (Offer.released sizes x saved) = absurd (n sizes.release-size)

  first_offer : (s : List ℕ) (c : OfferCall) (m : List ℕ) (rest : List OfferCall) (e : List ℕ) → KeepsEnforcer s → OfferCalled t header s c m
      → (KeepsEnforcer m → Offers t head (enforcer_at m) (offers_of rest) (enforcer_at e)) → (b : Bool) → eqb (length c.lent) release_size ≡ b
      → Offers t head (enforcer_at s)
      (listed_if b (record { byte = c.symbol; output = c.output; says = offer_said c.answer c.release; left = c.left }) ++ offers_of rest) (enforcer_at e)
  first_offer s c m rest e k a later true is =
      let x = one_offer s c.symbol c.output c.lent c.answer m c.left c.release k (eqb-true _ _ is) a in
      next x.offering (later x.keeps)
  first_offer s c m rest e k a later false is =
      let at = unsized_offer s c.symbol c.output c.lent c.answer m c.left c.release (eqb-false _ _ is) a in
      subst (λ (y : List ℕ). Offers t head (enforcer_at y) (offers_of rest) (enforcer_at e)) at (later (subst KeepsEnforcer (sym at) k))

  pub offer_calls : (s : List ℕ) (cs : List OfferCall) (e : List ℕ) → KeepsEnforcer s → OfferCalls t header s cs e
      → Offers t head (enforcer_at s) (offers_of cs) (enforcer_at e)
  offer_calls s cs e k done = done
  offer_calls s cs e k (next {m = m} {c = c} {cs = rest} a f) =
      first_offer s c m rest e k a (λ k'. offer_calls m rest e k' f) (eqb (length c.lent) release_size) refl

  -- the bytes after calls are such bytes
  pub keeps_after : (s : List ℕ) (cs : List OfferCall) (e : List ℕ) → KeepsEnforcer s → OfferCalls t header s cs e → KeepsEnforcer e
  keeps_after s cs e k done = k
  keeps_after s cs e k (next {m = m} {c = c} {cs = rest} a f) = keeps_after m rest e (one (eqb (length c.lent) release_size) refl) f
    where
      one : (b : Bool) → eqb (length c.lent) release_size ≡ b → KeepsEnforcer m
      one true is = (one_offer s c.symbol c.output c.lent c.answer m c.left c.release k (eqb-true _ _ is) a).keeps
      one false is = subst KeepsEnforcer (sym (unsized_offer s c.symbol c.output c.lent c.answer m c.left c.release (eqb-false _ _ is) a)) k
