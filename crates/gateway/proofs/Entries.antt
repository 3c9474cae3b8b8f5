-- What each function of the interface answers and leaves, from what the crates below promise and the bytes that were read and written. Assumes nothing.
use Rattle.std.specs.Prelude.{Err, None, Ok, Some, Option, Result, unwrap_or}
use Prim.Native.Nat.{ℕ, zero, suc, ◌<◌, ◌^◌}
use mathlib.Core.Path.{◌≡◌, refl, sym, subst, ◌∙◌}
use mathlib.Core.List.{List, [], ◌∷◌, ◌++◌}
use native.Mathlib.Omega.{arith}
use lib.ListN.{length}
use Rattle.std.specs.Prelude.{Result, Ok, Err}
use Rattle.refusal.specs.Refusals.{number_of}
use Rattle.automaton.specs.declared.Header.{Header}
use Rattle.refusal.specs.declared.Refusal.{Refusal}
use Rattle.decoding.specs.Decoding as decoding
use Rattle.decoding.specs.Decoding.{Decoding, answer_means}
use Rattle.std.specs.Prelude.{Result, Ok, Err}
use Rattle.opacity.specs.declared.Notion.{Notion}
use Rattle.opacity.specs.declared.Further.{Further}
use Rattle.verifier.specs.declared.Estimator.{Estimator}
use Rattle.verifier.specs.Replies as verifier
use Rattle.verifier.specs.Replies.{findings, OthersNoLeak, Opening, Accepting}
use Rattle.verifier.proofs.Judging.{told_others}
use Rattle.enforcer.specs.Offerings as offering
use Rattle.enforcer.specs.Offerings.{Starting, Offering}
use Rattle.enforcer.specs.declared.Enforcer.{Enforcer}
use Rattle.enforcer.specs.declared.Release.{Release}
use Rattle.explore.specs.Explorations as exploring
use Rattle.explore.specs.Explorations.{Exploring, explored_all}
use Rattle.explore.specs.declared.Exploration.{Exploration}
use Rattle.canonical.specs.Writing as canonical
use Rattle.canonical.specs.Writing.{Writing}
use Rattle.canonical.proofs.Calls.{call_wrote}
use Rattle.canonical.proofs.OneForm.{form_longest}
use Rattle.leaks.specs.FirstLeaks as leaking
use Rattle.leaks.specs.FirstLeaks.{Finding}
use Rattle.leaks.proofs.Only.{place_short}
use Rattle.layout.specs.Sizes.{header_size, written_size}
use Rattle.layout.specs.Layout.{Stored, header_at, header_bytes, further_at, estimator_at, estimator_bytes, EstimatorSized, notion_at, enforcer_at, enforcer_bytes}
use Rattle.layout.specs.Layout.{EnforcerSized}
use Rattle.layout.specs.Layout.{told_bytes, all_findings, judgement_bytes, release_bytes, exploration_bytes, first_leak_bytes, written_bytes, NumberSaved}
use Rattle.gateway.specs.Interface.{Decode, FreshSizes, Fresh, Accept, Start, Offer, Explore, VerifierSizes, StartSizes, OfferSizes, ExploreSizes}
use Rattle.gateway.specs.Interface.{FirstLeakSizes, FirstLeakCall, leak_said, CanonicalCall}
use Rattle.layout.proofs.Stores.{whole}
use Rattle.layout.proofs.Inverse.{estimator_length, estimator_saved, enforcer_saved, exploration_saved, number_saved}
use Rattle.verifier.specs.declared.Judgement.{Judgement}
use Rattle.opacity.specs.declared.Verdicts.{Verdicts}

-- a refusal leaves the lent memory
kept_table : (encoding table : List ℕ) {h : Header} {n : ℕ} {after : List ℕ} → Decoding encoding table h (decoding.refuse n) after → after ≡ table
kept_table encoding table (Decoding.malformed bad) = refl
kept_table encoding table (Decoding.refused size n e) = refl

kept_output : (t : List ℕ) (h : Header) (s : Enforcer) (symbol : ℕ) (output : List ℕ) {n : ℕ} {after : Enforcer} {out : List ℕ}
    → Offering t h s symbol output (offering.refused n) after out → out ≡ output
kept_output t h s symbol output (Offering.malformed bad) = refl
kept_output t h s symbol output (Offering.output_too_small so li few) = refl
kept_output t h s symbol output (Offering.not_observable so li wide never) = refl
kept_output t h s symbol output (Offering.incompatible so li wide ob none) = refl

kept_form : (encoding output : List ℕ) {n : ℕ} {after : List ℕ} → Writing encoding output (canonical.refuse n) after → after ≡ output
kept_form encoding output (Writing.refused r e) = refl
kept_form encoding output (Writing.too_small e next is few) = refl

module _ (encoding table header after : List ℕ) (h : Header) (answer : Result (Unit {0}) Refusal) (size : length header ≡ header_size)
    (did : Decoding encoding table h (answer_means answer) after) where
  pub decode_refused : (r : Refusal) (n : ℕ) → answer ≡ Err r → n ≡ number_of r → Decode encoding table header n after header
  decode_refused r n is number =
      let x = subst (λ (y : Result (Unit {0}) Refusal). Decoding encoding table h (answer_means y) after) is did in
      let kept = kept_table encoding table x in
      rw (number, kept) (Decode.refused size (rw kept at x))

  pub decode_accepted : (left : List ℕ) → answer ≡ Ok tt → left ≡ header_bytes h → Decode encoding table header 0 after left
  decode_accepted left is wrote =
      subst (λ (x : List ℕ). Decode encoding table header 0 after x) (sym wrote)
      (Decode.accepted size (subst (λ (x : Result (Unit {0}) Refusal). Decoding encoding table h (answer_means x) after) is did))

-- the judgement that was written: of all four places, of which those that are not given hold none
abbrev judged_bytes : Judgement Verdicts → List ℕ
judged_bytes j = judgement_bytes (all_findings j)

given_bytes : (f : Further) (j : Judgement Verdicts) → OthersNoLeak f j.verdicts → judged_bytes j ≡ judgement_bytes (findings f j)
given_bytes f j others =
    let e = told_others f j.verdicts others in
    sym (λ i. told_bytes (e 0 i) ++ (told_bytes (e 1 i) ++ (told_bytes (e 2 i) ++ (told_bytes (e 3 i) ++ j.size ∷ []))))

module _ (t header estimator judgement : List ℕ) (h : Header) (after : Estimator) (answer : Result (Judgement Verdicts) Refusal) (sizes : VerifierSizes header estimator judgement)
    (is-header : h ≡ header_at header) where
  -- an estimator that fills its slice
  filled : (left : List ℕ) → EstimatorSized after × Stored estimator 0 (estimator_bytes after) left → left ≡ estimator_bytes after
  filled left wrote = whole wrote.1 (estimator_length after wrote.0 ∙ sym sizes.estimator-size)

  module _ (further : List ℕ) (f : Further) (all : FreshSizes header further estimator judgement) (is-further : f ≡ further_at further 0)
      (did : Opening t h f (verifier.said f answer) after × verifier.Others f answer) where
    said_opening : (x : Result (Judgement Verdicts) Refusal) → answer ≡ x
        → Opening t (header_at header) (further_at further 0) (verifier.said (further_at further 0) x) after × verifier.Others (further_at further 0) x
    said_opening x is =
        subst (λ (y : Result (Judgement Verdicts) Refusal). Opening t (header_at header) (further_at further 0) (verifier.said (further_at further 0) y) after
        × verifier.Others (further_at further 0) y) is
        (subst (λ (y : Further). Opening t (header_at header) y (verifier.said y answer) after × verifier.Others y answer) is-further
        (subst (λ (y : Header). Opening t y f (verifier.said f answer) after × verifier.Others f answer) is-header did))

    pub fresh_refused : (r : Refusal) (n : ℕ) → answer ≡ Err r → n ≡ number_of r
        → Fresh t header further estimator judgement n estimator judgement
    fresh_refused r n is number = rw number (Fresh.refused all (said_opening (Err r) is).0)

    pub fresh_accepted : (j : Judgement Verdicts) (left told : List ℕ) → answer ≡ Ok j
        → EstimatorSized after × Stored estimator 0 (estimator_bytes after) left → told ≡ judged_bytes j → Fresh t header further estimator judgement 0 left told
    fresh_accepted j left told is wrote says =
        let x = said_opening (Ok j) is in
        subst (λ (y : List ℕ). Fresh t header further estimator judgement 0 y told) (sym (filled left wrote))
        (subst (λ (y : List ℕ). Fresh t header further estimator judgement 0 (estimator_bytes after) y) (sym (says ∙ given_bytes (further_at further 0) j x.1))
        (Fresh.accepted all x.0 (estimator_saved after wrote.0)))

  module _ (symbol : ℕ) (s : Estimator) (is-estimator : s ≡ estimator_at estimator)
      (did : Accepting t h s symbol (verifier.said s.further answer) after × verifier.Others s.further answer) where
    said_accepting : (x : Result (Judgement Verdicts) Refusal) → answer ≡ x
        → Accepting t (header_at header) (estimator_at estimator) symbol (verifier.said (estimator_at estimator).further x) after
        × verifier.Others (estimator_at estimator).further x
    said_accepting x is =
        subst (λ (y : Result (Judgement Verdicts) Refusal). Accepting t (header_at header) (estimator_at estimator) symbol (verifier.said (estimator_at estimator).further y) after
        × verifier.Others (estimator_at estimator).further y) is
        (subst (λ (y : Estimator). Accepting t (header_at header) y symbol (verifier.said y.further answer) after × verifier.Others y.further answer)
        is-estimator
        (subst (λ (y : Header). Accepting t y s symbol (verifier.said s.further answer) after × verifier.Others s.further answer) is-header did))

    pub accept_refused : (r : Refusal) (n : ℕ) → answer ≡ Err r → n ≡ number_of r
        → Accept t header symbol estimator judgement n estimator judgement
    accept_refused r n is number = rw number (Accept.refused sizes (said_accepting (Err r) is).0)

    pub accept_accepted : (j : Judgement Verdicts) (left told : List ℕ) → answer ≡ Ok j
        → EstimatorSized after × Stored estimator 0 (estimator_bytes after) left → told ≡ judged_bytes j → Accept t header symbol estimator judgement 0 left told
    accept_accepted j left told is wrote says =
        let x = said_accepting (Ok j) is in
        subst (λ (y : List ℕ). Accept t header symbol estimator judgement 0 y told) (sym (filled left wrote))
        (subst (λ (y : List ℕ). Accept t header symbol estimator judgement 0 (estimator_bytes after) y)
        (sym (says ∙ given_bytes (estimator_at estimator).further j x.1))
        (Accept.accepted sizes x.0 (estimator_saved after wrote.0)))

module _ (t header : List ℕ) (byte : ℕ) (further saved : List ℕ) (h : Header) (notion : Notion) (f : Further) (after : Enforcer) (answer : Result Unit Refusal)
    (sizes : StartSizes header byte further saved) (is-header : h ≡ header_at header) (is-notion : notion ≡ notion_at byte) (is-further : f ≡ further_at further 0)
    (did : Starting t h f notion (offering.start_outcome answer) after) where
  begun_starting : (x : Result Unit Refusal) → answer ≡ x → Starting t (header_at header) (further_at further 0) (notion_at byte) (offering.start_outcome x) after
  begun_starting x is =
      subst (λ (y : Result Unit Refusal). Starting t (header_at header) (further_at further 0) (notion_at byte) (offering.start_outcome y) after) is
      (subst (λ (y : Further). Starting t (header_at header) y (notion_at byte) (offering.start_outcome answer) after) is-further
      (subst (λ (y : Notion). Starting t (header_at header) f y (offering.start_outcome answer) after) is-notion
      (subst (λ (y : Header). Starting t y f notion (offering.start_outcome answer) after) is-header did)))

  pub start_refused : (r : Refusal) (n : ℕ) → answer ≡ Err r → n ≡ number_of r → Start t header byte further saved n saved
  start_refused r n is number = rw number (Start.refused sizes (begun_starting (Err r) is))

  pub start_started : (left : List ℕ) → answer ≡ (Ok tt) → EnforcerSized after × (left ≡ enforcer_bytes after)
      → Start t header byte further saved 0 left
  start_started left is wrote =
      subst (λ (x : List ℕ). Start t header byte further saved 0 x) (sym wrote.1)
      (Start.started sizes (begun_starting (Ok tt) is) (enforcer_saved after wrote.0))

module _ (t header : List ℕ) (symbol : ℕ) (saved output release out : List ℕ) (h : Header) (s after : Enforcer) (answer : Result Release Refusal)
    (sizes : OfferSizes header saved release)
    (is-header : h ≡ header_at header) (is-enforcer : s ≡ enforcer_at saved) (did : Offering t h s symbol output (offering.offer_outcome answer) after out) where
  said_offering : (x : Result Release Refusal) → answer ≡ x → Offering t (header_at header) (enforcer_at saved) symbol output (offering.offer_outcome x) after out
  said_offering x is =
      subst (λ (y : Result Release Refusal). Offering t (header_at header) (enforcer_at saved) symbol output (offering.offer_outcome y) after out) is
      (subst (λ (y : Enforcer). Offering t (header_at header) y symbol output (offering.offer_outcome answer) after out) is-enforcer
      (subst (λ (y : Header). Offering t y s symbol output (offering.offer_outcome answer) after out) is-header did))

  pub offer_refused : (r : Refusal) (n : ℕ) → answer ≡ Err r → n ≡ number_of r
      → Offer t header symbol saved output release n saved out release
  offer_refused r n is number =
      let x = said_offering (Err r) is in
      let kept = kept_output t (header_at header) (enforcer_at saved) symbol output x in
      rw (number, kept) (Offer.refused sizes (rw kept at x))

  pub offer_released : (r : Release) (left told : List ℕ) → answer ≡ Ok r → EnforcerSized after × (left ≡ enforcer_bytes after)
      → told ≡ release_bytes r
      → Offer t header symbol saved output release 0 left out told
  offer_released r left told is wrote says =
      subst (λ (x : List ℕ). Offer t header symbol saved output release 0 x out told) (sym wrote.1)
      (subst (λ (x : List ℕ). Offer t header symbol saved output release 0 (enforcer_bytes after) out x) (sym says)
      (Offer.released sizes (said_offering (Ok r) is) (enforcer_saved after wrote.0)))

module _ (t header further : List ℕ) (budget : ℕ) (lent : List ℕ) (h : Header) (f : Further) (answer : Result Exploration Refusal)
    (sizes : ExploreSizes header further lent) (is-header : h ≡ header_at header) (is-further : f ≡ further_at further 0)
    (did : Exploring t h f (exploring.limit_of budget) (exploring.said answer)) where
  said_exploring : (x : Result Exploration Refusal) → answer ≡ x → Exploring t (header_at header) (further_at further 0) (exploring.limit_of budget) (exploring.said x)
  said_exploring x is =
      subst (λ (y : Result Exploration Refusal). Exploring t (header_at header) (further_at further 0) (exploring.limit_of budget) (exploring.said y)) is
      (subst (λ (y : Further). Exploring t (header_at header) y (exploring.limit_of budget) (exploring.said answer)) is-further
      (subst (λ (y : Header). Exploring t y f (exploring.limit_of budget) (exploring.said answer)) is-header did))

  pub explore_refused : (r : Refusal) (n : ℕ) → answer ≡ Err r → n ≡ number_of r → Explore t header further budget lent n lent
  explore_refused r n is number = rw number (Explore.refused sizes (said_exploring (Err r) is))

  -- at most 256, which fits its two bytes
  fits : (e : Exploration) → Exploring t (header_at header) (further_at further 0) (exploring.limit_of budget)
      (exploring.explored e.number e.weak e.strong)
      → e.number < 2 ^ 16
  fits e (explored_all x) = omega (arith, x.few)

  pub explore_explored : (e : Exploration) (left : List ℕ) → answer ≡ Ok e → left ≡ exploration_bytes e
      → Explore t header further budget lent 0 left
  explore_explored e left is wrote =
      let x = said_exploring (Ok e) is in
      subst (λ (y : List ℕ). Explore t header further budget lent 0 y) (sym wrote) (Explore.explored sizes x (exploration_saved e (fits e x)))

-- so of a first leak
module _ (t header : List ℕ) (notion : ℕ) (further events lent : List ℕ) (h : Header) (f : Further) (by : Notion) (answer : Result (Option ℕ) Refusal)
    (sizes : FirstLeakSizes header notion further lent) (head : h ≡ header_at header) (given : f ≡ further_at further 0) (under : by ≡ notion_at notion)
    (did : Finding by t h f events (leaking.said answer)) where
  said_finding : (y : Result (Option ℕ) Refusal) → answer ≡ y → Finding (notion_at notion) t (header_at header) (further_at further 0) events (leaking.said y)
  said_finding y is = subst (λ (z : Result (Option ℕ) Refusal). Finding (notion_at notion) t (header_at header) (further_at further 0) events (leaking.said z)) is
      (rw (head, given, under) at did)

  pub leak_refused : (r : Refusal) (n : ℕ) → answer ≡ Err r → n ≡ number_of r → FirstLeakCall t header notion further events lent n lent
  leak_refused r n is number = rw number (FirstLeakCall.refused sizes (said_finding (Err r) is))

  -- a place is one from 1
  some_place : (p : ℕ) → Finding (notion_at notion) t (header_at header) (further_at further 0) events (leaking.at p)
      → Finding (notion_at notion) t (header_at header) (further_at further 0) events (leak_said p)
  some_place zero (Finding.first_leaks so allowed x) = absurd (omega (arith, x.counted))
  some_place (suc p) x = x

  -- and it fits its bytes
  small_place : (p : ℕ) → length events < 2 ^ 64 → Finding (notion_at notion) t (header_at header) (further_at further 0) events (leaking.at p) → p < 2 ^ 64
  small_place p short (Finding.first_leaks so allowed x) = omega (arith, place_short _ _ _ _ _ p x)

  leak_place : (o : Option ℕ) → length events < 2 ^ 64 → answer ≡ Ok o → FirstLeakCall t header notion further events lent 0 (first_leak_bytes (unwrap_or o 0))
  leak_place None short is = FirstLeakCall.found sizes {p = 0} (said_finding (Ok None) is) (number_saved 0 (omega arith))
  leak_place (Some p) short is =
      let x = said_finding (Ok (Some p)) is in FirstLeakCall.found sizes {p = p} (some_place p x) (number_saved p (small_place p short x))

  pub leak_found : (o : Option ℕ) (p : ℕ) (left : List ℕ) → length events < 2 ^ 64 → answer ≡ Ok o → p ≡ unwrap_or o 0 → left ≡ first_leak_bytes p
      → FirstLeakCall t header notion further events lent 0 left
  leak_found o p left short is place wrote = rw (wrote, place) (leak_place o short is)

-- and of a canonical form: none is so long that its size would not fit its bytes
pub size_saved : (encoding output after : List ℕ) (n : ℕ) → Writing encoding output (canonical.wrote n) after → NumberSaved n
size_saved encoding output after n x =
    let c = call_wrote encoding output after n x in
    number_saved n (omega (arith, c.number_is, form_longest encoding c.meaning c.means))

module _ (encoding output lent after : List ℕ) (answer : Result ℕ Refusal) (size : length lent ≡ written_size)
    (did : Writing encoding output (canonical.answer_means answer) after) where
  said_writing : (y : Result ℕ Refusal) → answer ≡ y → Writing encoding output (canonical.answer_means y) after
  said_writing y is = subst (λ (z : Result ℕ Refusal). Writing encoding output (canonical.answer_means z) after) is did

  pub canonical_refused : (r : Refusal) (n : ℕ) → answer ≡ Err r → n ≡ number_of r → CanonicalCall encoding output lent n after lent
  canonical_refused r n is number =
      let x = said_writing (Err r) is in
      let kept = kept_form encoding output x in
      rw (number, kept) (CanonicalCall.refused size (rw kept at x))

  pub canonical_written : (n : ℕ) (left : List ℕ) → answer ≡ Ok n → left ≡ written_bytes n
      → CanonicalCall encoding output lent 0 after left
  canonical_written n left is wrote =
      let x = said_writing (Ok n) is in
      subst (λ (y : List ℕ). CanonicalCall encoding output lent 0 after y) (sym wrote)
      (CanonicalCall.written size x (size_saved encoding output after n x))
