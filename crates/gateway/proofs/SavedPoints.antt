-- The mission's second and third points for a gateway that keeps bytes. Assumes nothing.
use Prim.Native.Nat.{ℕ, ◌≤◌, ◌<◌}
use mathlib.Core.Path.{◌≡◌, refl, ap, sym, subst, ◌∙◌}
use mathlib.Core.List.{List, []}
use native.Mathlib.Omega.{arith}
use lib.ListN.{length, get_or}
use Rattle.automaton.specs.Run.{automaton_of, WellFormed}
use Rattle.automaton.specs.declared.Header.{Header}
use Rattle.decoding.specs.Decoding.{Decoding, accept}
use Rattle.decoding.proofs.Listing.{decoded_well_formed}
use Rattle.opacity.specs.declared.Further.{Further}
use Rattle.verifier.specs.declared.Estimator.{Estimator}
use Rattle.opacity.specs.Secrets.{secrets_of, secret_at, cleared_of, Allowed}
use Rattle.verifier.specs.Estimators as estimator
use Rattle.verifier.specs.Replies as replies
use Rattle.verifier.specs.Replies.{Findings, told_at, Opening, Accepting}
use Rattle.verifier.specs.Calls as verifier
use Rattle.opacity.proofs.Numbering.{look_back_small, secret_back, how_many, allowed_not_large}
use Rattle.opacity.proofs.Exactness.{tells_bounded}
use Rattle.verifier.proofs.Judging.{bounded_up}
use Rattle.verifier.proofs.SecondPoint.{second_point}
use Rattle.verifier.proofs.PastCount.{past_opening}
use Rattle.enforcer.specs.declared.Enforcer.{Enforcer}
use Rattle.enforcer.specs.Enforcers as limits
use Rattle.enforcer.specs.Offerings.{OpensAsLeak, Starting, Offering}
use Rattle.enforcer.specs.Offers as enforcer
use Rattle.enforcer.proofs.ThirdPoint.{third_point}
use Rattle.enforcer.proofs.Starts.{never_opens, past_starting}
use Rattle.layout.specs.Sizes.{header_size, further_size, estimator_size, strong_byte, notion_place, enforcer_size, judgement_size}
use Rattle.layout.specs.Layout.{header_at, further_at, estimator_at, notion_at, enforcer_at, judgement_at}
use Rattle.gateway.specs.Interface.{Decode, Fresh, Accept, Start, Offer, ByFurther, ByStart}
use Rattle.gateway.specs.SavedCalls.{AcceptCall, AcceptCalls, accept_said, calls_of, OfferCall, OfferCalls, offers_of}
use Rattle.layout.proofs.Inverse.{header_length}
use Rattle.gateway.proofs.Sizes.{header_sized, decoded_header_back}
use Rattle.gateway.proofs.Numbered.{not_zero}
use Rattle.gateway.proofs.SavedSteps.{told_back, accept_calls, offer_calls}

-- what `header_at header` is below: after a decode that answered 0 the header's bytes hold the header that was encoded, and the table its transitions
pub saved_header : (encoding table before t header : List ℕ) → Decode encoding table before 0 t header → Decoding encoding table (header_at header) accept t
saved_header encoding table before t header (Decode.refused size x) = absurd (not_zero encoding table x refl)
saved_header encoding table before t header (Decode.accepted size {h = h} x) =
    subst (λ (y : Header). Decoding encoding table y accept t) (sym (decoded_header_back encoding table h t x)) x

-- the header has its length, and with the table it is an automaton
pub saved_length : (encoding table before t header : List ℕ) → Decode encoding table before 0 t header → length header ≡ header_size
saved_length encoding table before t header (Decode.refused size x) = absurd (not_zero encoding table x refl)
saved_length encoding table before t header (Decode.accepted size {h = h} x) = header_length h (header_sized encoding table h t x).symbols

pub saved_well_formed : (encoding table before t header : List ℕ) → Decode encoding table before 0 t header → WellFormed t (header_at header)
saved_well_formed encoding table before t header x = decoded_well_formed encoding table (header_at header) t (saved_header encoding table before t header x)

-- so with slices of their lengths a fresh estimator is refused by 13 and 14 only
pub saved_fresh : (encoding table before t header further estimator lent : List ℕ) (answer : ℕ) (s told : List ℕ) → Decode encoding table before 0 t header
    → length further ≡ further_size → length estimator ≡ estimator_size → length lent ≡ judgement_size
    → Fresh t header further estimator lent answer s told → ByFurther (further_at further 0) answer
saved_fresh encoding table before t header further estimator lent answer s told x f e l (Fresh.size bad) =
    absurd (bad (record {
      verifier = record { header-size = saved_length encoding table before t header x; estimator-size = e; judgement-size = l };
      further-size = f;
    }))
saved_fresh encoding table before t header further estimator lent answer s told x f e l (Fresh.refused _ (Opening.malformed bad out)) =
    absurd (bad (saved_well_formed encoding table before t header x))
saved_fresh encoding table before t header further estimator lent answer s told x f e l
    (Fresh.refused _ (Opening.too_many_secrets so many out)) = ByFurther.too_many many
saved_fresh encoding table before t header further estimator lent answer s told x f e l
    (Fresh.refused _ (Opening.look_back_too_large so few large out)) = ByFurther.too_large few large
saved_fresh encoding table before t header further estimator lent answer s told x f e l
    (Fresh.accepted _ (Opening.opened so allowed same li many within exact) saved) = ByFurther.given allowed

-- and a start by these, and by 8 where a secret that is given opens as leak 0
pub saved_start : (encoding table before t header : List ℕ) (notion : ℕ) (further enforcer : List ℕ) (answer : ℕ) (s : List ℕ)
    → Decode encoding table before 0 t header
    → notion ≤ strong_byte → length further ≡ further_size → length enforcer ≡ enforcer_size → Start t header notion further enforcer answer s
    → ByStart (further_at further 0) (OpensAsLeak (notion_at notion) (automaton_of t (header_at header)) (secrets_of (header_at header) (further_at further 0))) answer
saved_start encoding table before t header notion further enforcer answer s x known f e (Start.size bad) =
    absurd (bad (record { header-size = saved_length encoding table before t header x; notion_known = known; further-size = f; enforcer-size = e }))
saved_start encoding table before t header notion further enforcer answer s x known f e (Start.refused _ (Starting.malformed bad out)) =
    absurd (bad (saved_well_formed encoding table before t header x))
saved_start encoding table before t header notion further enforcer answer s x known f e
    (Start.refused _ (Starting.too_many_secrets so many out)) = ByStart.too_many many
saved_start encoding table before t header notion further enforcer answer s x known f e
    (Start.refused _ (Starting.look_back_too_large so few large out)) = ByStart.too_large few large
saved_start encoding table before t header notion further enforcer answer s x known f e
    (Start.refused _ (Starting.initial_leak so allowed leaks out)) = ByStart.initial_leak allowed leaks
saved_start encoding table before t header notion further enforcer answer s x known f e
    (Start.started _ (Starting.ready so allowed tells same grown) saved) = ByStart.started allowed (never_opens (notion_at notion) _ _ tells)

-- a promise about the verdicts that were written is one about those that are read
told_promise : (t : List ℕ) (h : Header) (f : Further) (j : Findings) (told : List ℕ) (cs : List verifier.Call) (e : Estimator)
    → accept_said f.count 0 told ≡ replies.verdicts j → verifier.VerifierPromise t h f j cs e
    → verifier.VerifierPromise t h f (judgement_at f.count told) cs e
told_promise t h f j told cs e same x = subst (λ (r : replies.Said). Promised r) (sym same) x
  where
    Promised : replies.Said → Type 0
    Promised (replies.refused m) = Unit {0}
    Promised (replies.verdicts i) = verifier.VerifierPromise t h f i cs e

-- THE SECOND POINT: a fresh call that answered 0, and any calls of accept on the bytes that the call before left
pub saved_second_point : (t header further before lent s told : List ℕ) (cs : List AcceptCall) (e : List ℕ) → Fresh t header further before lent 0 s told
    → AcceptCalls t header s cs e
    → verifier.VerifierPromise t (header_at header) (further_at further 0) (judgement_at (further_at further 0).count told)
    (calls_of (further_at further 0).count cs) (estimator_at e)
saved_second_point t header further before lent _ _ cs e (Fresh.refused _ x11) calls = elim x11 [ ]
saved_second_point t header further before lent s told cs e
    (Fresh.accepted sizes {j = j} {s = x} (Opening.opened so allowed same li many within exact) saved) calls =
    let h = header_at header in
    let f = further_at further 0 in
    let few = allowed.few in
    let small = look_back_small h f so.back allowed in
    let reads = told_back j f.count few (many ∙ how_many h f few) (λ notion i less.
    let given : i < length (secrets_of h f) = omega (arith, many) in
    let c = secret_at (secrets_of h f) i in
    bounded_up c.k 15 (told_at notion j.each i) (omega (arith, secret_back h f i given, small))
    (tells_bounded notion (automaton_of t h) c [] (told_at notion j.each i) (exact.tells notion i given))) in
    let listed = accept_calls t header sizes.verifier.header-size (cleared_of f) s cs e saved.size
    (ap (λ (y : Estimator). y.further) saved.back ∙ same) calls in
    told_promise t h f j told (calls_of f.count cs) (estimator_at e) reads
    (second_point t h f j x (calls_of f.count cs) (estimator_at e) (Opening.opened so allowed same li many within exact)
    (subst (λ (y : Estimator). verifier.Calls t h y (calls_of f.count cs) (estimator_at e)) saved.back listed))

-- from the bytes of an encoding to the verdicts and the number: what was decoded, a fresh estimator on it with further secrets that may be given, and any
-- calls of accept
pub encoded_second_point : (encoding table before t header further estimator lent : List ℕ) (answer : ℕ) (s told : List ℕ) (cs : List AcceptCall) (e : List ℕ)
    → Decode encoding table before 0 t header
    → length further ≡ further_size → length estimator ≡ estimator_size → length lent ≡ judgement_size → Allowed (further_at further 0)
    → Fresh t header further estimator lent answer s told → AcceptCalls t header s cs e
    → (answer ≡ 0) × Decoding encoding table (header_at header) accept t
    × verifier.VerifierPromise t (header_at header) (further_at further 0) (judgement_at (further_at further 0).count told)
    (calls_of (further_at further 0).count cs) (estimator_at e)
encoded_second_point encoding table before t header further estimator lent answer s told cs e x size28 size size' allowed fresh f =
    let zero_is = answered (further_at further 0) answer allowed
    (saved_fresh encoding table before t header further estimator lent answer s told x size28 size size' fresh) in (
      zero_is,
      saved_header encoding table before t header x,
      saved_second_point t header further estimator lent s told cs e (subst (λ (n : ℕ). Fresh t header further estimator lent n s told) zero_is fresh) f,
    )
  where
    answered : (f : Further) (n : ℕ) → Allowed f → ByFurther f n → n ≡ 0
    answered f n allowed (ByFurther.given a) = refl
    answered f n allowed (ByFurther.too_many many) = absurd (omega (arith, allowed.few))
    answered f n allowed (ByFurther.too_large few large) = absurd (allowed_not_large f allowed large)

-- THE THIRD POINT: a start that answered 0, and any calls of offer on the bytes that the call before left
pub saved_third_point : (t header : List ℕ) (notion : ℕ) (further before s : List ℕ) (cs : List OfferCall) (e : List ℕ)
    → Start t header notion further before 0 s
    → OfferCalls t header s cs e → enforcer.EnforcerPromise (notion_at notion) t (header_at header) (further_at further 0) (offers_of cs) (enforcer_at e)
saved_third_point t header notion further before _ cs e (Start.refused _ x8) f = elim x8 [ ]
saved_third_point t header notion further before s cs e (Start.started sizes {s = x} starting saved) f =
    let h = header_at header in
    let calls = offer_calls t header sizes.header-size s cs e (record { size = saved.size; known = saved.notion_known }) f in
    third_point (notion_at notion) t h (further_at further 0) x (offers_of cs) (enforcer_at e) starting
    (subst (λ (y : Enforcer). enforcer.Offers t h y (offers_of cs) (enforcer_at e)) saved.back calls)

-- WITHIN THE LIMITS AS THEY READ BACK: the bytes that an accepted event leaves, of a saved state within its limits, whatever it grew from; and they keep
-- the further secrets
pub accept_within : (t header : List ℕ) (symbol : ℕ) (before lent after told : List ℕ) → Accept t header symbol before lent 0 after told
    → (length after ≡ estimator_size) × estimator.InLimits (header_at header) (estimator_at after) × ((estimator_at after).further ≡ (estimator_at before).further)
accept_within t header symbol before lent _ _ (Accept.refused _ x7) = elim x7 [ ]
accept_within t header symbol before lent after told (Accept.accepted sizes {s = s} (Accepting.accepted so li ob same limits many b within exact) saved) =
    (saved.size, subst (estimator.InLimits (header_at header)) (sym saved.back) limits, ap (λ (y : Estimator). y.further) saved.back ∙ same)

pub offer_within : (t header : List ℕ) (symbol : ℕ) (before output lent after left release : List ℕ)
    → Offer t header symbol before output lent 0 after left release
    → (length after ≡ enforcer_size) × (get_or after notion_place 0 ≤ strong_byte) × limits.InLimits (header_at header) (enforcer_at after)
    × ((enforcer_at after).estimator.further ≡ (enforcer_at before).estimator.further)
offer_within t header symbol before output lent _ _ _ (Offer.refused _ x9) = elim x9 [ ]
offer_within t header symbol before output lent after left release
    (Offer.released sizes {s = s} (Offering.accepted so li wide ob same within bal front rest size exact) saved) = (
      saved.size,
      saved.notion_known,
      subst (limits.InLimits (header_at header)) (sym saved.back) within,
      ap (λ (y : Enforcer). y.estimator.further) saved.back ∙ same,
    )

-- WHAT STANDS PAST THE COUNT in the bytes of further secrets counts for nothing
pub past_fresh : (t header a b estimator lent : List ℕ) (answer : ℕ) (s told : List ℕ) → length a ≡ further_size → length b ≡ further_size
    → cleared_of (further_at a 0) ≡ cleared_of (further_at b 0) → Fresh t header a estimator lent answer s told → Fresh t header b estimator lent answer s told
past_fresh t header a b estimator lent answer s told size-a size-b same (Fresh.size bad) = Fresh.size
    (λ x. bad (record { verifier = x.verifier; further-size = size-a }))
past_fresh t header a b estimator lent answer s told size-a size-b same (Fresh.refused sizes x) =
    Fresh.refused (record { verifier = sizes.verifier; further-size = size-b }) (past_opening (further_at a 0) (further_at b 0) same t (header_at header) _ _ x)
past_fresh t header a b estimator lent answer s told size-a size-b same (Fresh.accepted sizes x saved) =
    Fresh.accepted (record { verifier = sizes.verifier; further-size = size-b })
    (past_opening (further_at a 0) (further_at b 0) same t (header_at header) _ _ x) saved

pub past_start : (t header : List ℕ) (notion : ℕ) (a b enforcer : List ℕ) (answer : ℕ) (s : List ℕ) → length a ≡ further_size → length b ≡ further_size
    → cleared_of (further_at a 0) ≡ cleared_of (further_at b 0) → Start t header notion a enforcer answer s → Start t header notion b enforcer answer s
past_start t header notion a b enforcer answer s size-a size-b same (Start.size bad) =
    Start.size (λ x. bad (record { header-size = x.header-size; notion_known = x.notion_known; further-size = size-a; enforcer-size = x.enforcer-size }))
past_start t header notion a b enforcer answer s size-a size-b same (Start.refused x starting) =
    Start.refused (record { header-size = x.header-size; notion_known = x.notion_known; further-size = size-b; enforcer-size = x.enforcer-size })
    (past_starting t (header_at header) (further_at a 0) (further_at b 0) same (notion_at notion) _ _ starting)
past_start t header notion a b enforcer answer s size-a size-b same (Start.started x starting saved) =
    Start.started (record { header-size = x.header-size; notion_known = x.notion_known; further-size = size-b; enforcer-size = x.enforcer-size })
    (past_starting t (header_at header) (further_at a 0) (further_at b 0) same (notion_at notion) _ _ starting) saved
