-- The first point of the functions on bytes, row by row of their contracts. Assumes nothing.
use mathlib.Core.Path.{refl}
use Rattle.gateway.specs.Interface.{Decode, Fresh, Accept, Start, Offer, Explore, FirstLeakCall, CanonicalCall, Witnessing, CheckingWitness}
use Rattle.guarantees.specs.SavedBytes.{DecodeSaved, FreshSaved, AcceptSaved, StartSaved, OfferSaved, ExploreSaved, FirstLeakSaved, CanonicalSaved}
use Rattle.guarantees.specs.SavedBytes.{WitnessSaved, CheckSaved}

pub decode_saved : DecodeSaved
decode_saved encoding table header answer t after (Decode.size bad) = (λ x. refl, λ x. (refl, refl), λ size. absurd (bad size))
decode_saved encoding table header answer t after (Decode.refused size {h = h} x) = (λ bad. absurd (bad size), λ y. (refl, refl), λ z y. (h, x))
decode_saved encoding table header answer t after (Decode.accepted size x) = (λ bad. absurd (bad size), λ y. absurd (y refl), λ z y. absurd (y refl))

pub fresh_saved : FreshSaved
fresh_saved t header further estimator judgement answer s told (Fresh.size bad) = (λ x. refl, λ x. (refl, refl), λ sizes. absurd (bad sizes))
fresh_saved t header further estimator judgement answer s told (Fresh.refused sizes {s = x} y) = (λ bad. absurd (bad sizes), λ z. (refl, refl), λ w z. (x, y))
fresh_saved t header further estimator judgement answer s told (Fresh.accepted sizes x saved) =
    (λ bad. absurd (bad sizes), λ z. absurd (z refl), λ w z. absurd (z refl))

pub accept_saved : AcceptSaved
accept_saved t header symbol estimator judgement answer s told (Accept.size bad) = (λ x. refl, λ x. (refl, refl), λ sizes. absurd (bad sizes))
accept_saved t header symbol estimator judgement answer s told (Accept.refused sizes {s = x} y) =
    (λ bad. absurd (bad sizes), λ z. (refl, refl), λ w z. (x, y))
accept_saved t header symbol estimator judgement answer s told (Accept.accepted sizes x saved) =
    (λ bad. absurd (bad sizes), λ z. absurd (z refl), λ w z. absurd (z refl))

pub start_saved : StartSaved
start_saved t header notion further enforcer answer s (Start.size bad) = (λ x. refl, λ x. refl, λ sizes. absurd (bad sizes))
start_saved t header notion further enforcer answer s (Start.refused sizes {s = x} y) = (λ bad. absurd (bad sizes), λ z. refl, λ w z. (x, y))
start_saved t header notion further enforcer answer s (Start.started sizes x saved) =
    (λ bad. absurd (bad sizes), λ z. absurd (z refl), λ w z. absurd (z refl))

pub offer_saved : OfferSaved
offer_saved t header symbol enforcer output release answer s left told (Offer.size bad) = (λ x. refl, λ x. (refl, refl, refl), λ sizes. absurd (bad sizes))
offer_saved t header symbol enforcer output release answer s left told (Offer.refused sizes {s = x} y) =
    (λ bad. absurd (bad sizes), λ z. (refl, refl, refl), λ w z. (x, y))
offer_saved t header symbol enforcer output release answer s left told (Offer.released sizes x saved) =
    (λ bad. absurd (bad sizes), λ z. absurd (z refl), λ w z. absurd (z refl))

pub explore_saved : ExploreSaved
explore_saved t header further budget exploration answer out (Explore.size bad) = (λ x. refl, λ x. refl, λ sizes. absurd (bad sizes))
explore_saved t header further budget exploration answer out (Explore.refused sizes y) = (λ bad. absurd (bad sizes), λ z. refl, λ w z. y)
explore_saved t header further budget exploration answer out (Explore.explored sizes x saved) =
    (λ bad. absurd (bad sizes), λ z. absurd (z refl), λ w z. absurd (z refl))

pub first_leak_saved : FirstLeakSaved
first_leak_saved t header notion further events place answer out (FirstLeakCall.size bad) = (λ x. refl, λ x. refl, λ sizes. absurd (bad sizes))
first_leak_saved t header notion further events place answer out (FirstLeakCall.refused sizes y) = (λ bad. absurd (bad sizes), λ z. refl, λ w z. y)
first_leak_saved t header notion further events place answer out (FirstLeakCall.found sizes x saved) =
    (λ bad. absurd (bad sizes), λ z. absurd (z refl), λ w z. absurd (z refl))

pub canonical_saved : CanonicalSaved
canonical_saved encoding output size answer after out (CanonicalCall.size bad) = (λ x. refl, λ x. (refl, refl), λ sized. absurd (bad sized))
canonical_saved encoding output size answer after out (CanonicalCall.refused sized y) = (λ bad. absurd (bad sized), λ z. (refl, refl), λ w z. y)
canonical_saved encoding output size answer after out (CanonicalCall.written sized x saved) =
    (λ bad. absurd (bad sized), λ z. absurd (z refl), λ w z. absurd (z refl))

pub witness_saved : WitnessSaved
witness_saved t header notion secret k estimator output run answer after out (Witnessing.size bad) =
    (λ x. refl, λ x. (refl, refl), λ sizes. absurd (bad sizes))
witness_saved t header notion secret k estimator output run answer after out (Witnessing.refused sizes y) =
    (λ bad. absurd (bad sizes), λ z. (refl, refl), λ w z. y)
witness_saved t header notion secret k estimator output run answer after out (Witnessing.written sizes x saved) =
    (λ bad. absurd (bad sizes), λ z. absurd (z refl), λ w z. absurd (z refl))

pub check_saved : CheckSaved
check_saved t header notion secret k start estimator pairs valid answer out (CheckingWitness.size bad) = (λ x. refl, λ x. refl, λ sizes. absurd (bad sizes))
check_saved t header notion secret k start estimator pairs valid answer out (CheckingWitness.refused sizes y) = (λ bad. absurd (bad sizes), λ z. refl, λ w z. y)
check_saved t header notion secret k start estimator pairs valid answer out (CheckingWitness.checked sizes holds x) =
    (λ bad. absurd (bad sizes), λ z. absurd (z refl), λ w z. absurd (z refl))
