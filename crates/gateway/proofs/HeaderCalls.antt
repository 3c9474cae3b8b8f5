-- Every function that takes a header says the same with the bytes of two headers that are the same but for the symbols of unobservable events (02, S-2).
-- Assumes nothing.
use mathlib.Core.List.{List}
use mathlib.Core.Logic.{◌↔◌}
use Prim.Native.Nat.{ℕ}
use Rattle.verifier.proofs.Corresponding.{same_opening, same_accepting}
use Rattle.enforcer.proofs.Corresponding.{same_starting, same_offering}
use Rattle.waiting.proofs.Agreed.{same_exploring}
use Rattle.leaks.proofs.Agreed.{same_finding}
use Rattle.layout.specs.Layout.{header_at}
use Rattle.layout.proofs.HeaderBytes.{SameHeaders, same_k, same_secret, same_symbols, headers_back}
use Rattle.gateway.specs.Interface.{VerifierSizes, FreshSizes, Fresh, Accept, StartSizes, Start, OfferSizes, Offer, ExploreSizes, Explore}
use Rattle.gateway.specs.Interface.{FirstLeakSizes, FirstLeakCall, WitnessSizes, Witnessing, CheckWitnessSizes, CheckingWitness}
use Rattle.gateway.proofs.Relabelled.{same_witness_writing, same_witness_checking}

module _ (a b : List ℕ) (x : SameHeaders a b) where
  verifier_sizes : (estimator judgement : List ℕ) → VerifierSizes a estimator judgement → VerifierSizes b estimator judgement
  verifier_sizes estimator judgement s = record { header-size = x.other_size; estimator-size = s.estimator-size; judgement-size = s.judgement-size }

  fresh_sizes : (further estimator judgement : List ℕ) → FreshSizes a further estimator judgement → FreshSizes b further estimator judgement
  fresh_sizes further estimator judgement s = record { verifier = verifier_sizes estimator judgement s.verifier; further-size = s.further-size }

  start_sizes : (notion : ℕ) (further enforcer : List ℕ) → StartSizes a notion further enforcer → StartSizes b notion further enforcer
  start_sizes notion further enforcer s =
      record { header-size = x.other_size; notion_known = s.notion_known; further-size = s.further-size; enforcer-size = s.enforcer-size }

  offer_sizes : (enforcer release : List ℕ) → OfferSizes a enforcer release → OfferSizes b enforcer release
  offer_sizes enforcer release s =
      record { header-size = x.other_size; enforcer-size = s.enforcer-size; notion_known = s.notion_known; release-size = s.release-size }

  explore_sizes : (further lent : List ℕ) → ExploreSizes a further lent → ExploreSizes b further lent
  explore_sizes further lent s = record { header-size = x.other_size; further-size = s.further-size; exploration-size = s.exploration-size }

  leak_sizes : (notion : ℕ) (further place : List ℕ) → FirstLeakSizes a notion further place → FirstLeakSizes b notion further place
  leak_sizes notion further place s =
      record { header-size = x.other_size; notion_known = s.notion_known; further-size = s.further-size; place_size = s.place_size }

  witness_sizes : (notion : ℕ) (estimator run : List ℕ) → WitnessSizes a notion estimator run → WitnessSizes b notion estimator run
  witness_sizes notion estimator run s =
      record { header-size = x.other_size; notion_known = s.notion_known; estimator-size = s.estimator-size; run-size = s.run-size }

  check_sizes : (notion : ℕ) (estimator valid : List ℕ) → CheckWitnessSizes a notion estimator valid → CheckWitnessSizes b notion estimator valid
  check_sizes notion estimator valid s =
      record { header-size = x.other_size; notion_known = s.notion_known; estimator-size = s.estimator-size; valid-size = s.valid-size }

module _ (t a b : List ℕ) (x : SameHeaders a b) where
  fresh_to : (further estimator judgement : List ℕ) (n : ℕ) (after told : List ℕ) → Fresh t a further estimator judgement n after told
      → Fresh t b further estimator judgement n after told
  fresh_to further estimator judgement n after told (Fresh.size bad) =
      Fresh.size (λ s. bad (fresh_sizes b a (headers_back a b x) further estimator judgement s))
  fresh_to further estimator judgement n after told (Fresh.refused s o) =
      Fresh.refused (fresh_sizes a b x further estimator judgement s)
      ((same_opening t (header_at a) (header_at b) (same_symbols a b x t) (same_secret a b x) (same_k a b x) _ _ _).0 o)
  fresh_to further estimator judgement n after told (Fresh.accepted s o saved) =
      Fresh.accepted (fresh_sizes a b x further estimator judgement s)
      ((same_opening t (header_at a) (header_at b) (same_symbols a b x t) (same_secret a b x) (same_k a b x) _ _ _).0 o) saved

  accept_to : (symbol : ℕ) (estimator judgement : List ℕ) (n : ℕ) (after told : List ℕ) → Accept t a symbol estimator judgement n after told
      → Accept t b symbol estimator judgement n after told
  accept_to symbol estimator judgement n after told (Accept.size bad) = Accept.size (λ s. bad (verifier_sizes b a (headers_back a b x) estimator judgement s))
  accept_to symbol estimator judgement n after told (Accept.refused s o) =
      Accept.refused (verifier_sizes a b x estimator judgement s)
      ((same_accepting t (header_at a) (header_at b) (same_symbols a b x t) (same_secret a b x) (same_k a b x) _ symbol _ _).0 o)
  accept_to symbol estimator judgement n after told (Accept.accepted s o saved) =
      Accept.accepted (verifier_sizes a b x estimator judgement s)
      ((same_accepting t (header_at a) (header_at b) (same_symbols a b x t) (same_secret a b x) (same_k a b x) _ symbol _ _).0 o) saved

  start_to : (notion : ℕ) (further enforcer : List ℕ) (n : ℕ) (after : List ℕ) → Start t a notion further enforcer n after
      → Start t b notion further enforcer n after
  start_to notion further enforcer n after (Start.size bad) = Start.size (λ s. bad (start_sizes b a (headers_back a b x) notion further enforcer s))
  start_to notion further enforcer n after (Start.refused s o) =
      Start.refused (start_sizes a b x notion further enforcer s)
      ((same_starting t (header_at a) (header_at b) (same_symbols a b x t) (same_secret a b x) (same_k a b x) _ _ _ _).0 o)
  start_to notion further enforcer n after (Start.started s o saved) =
      Start.started (start_sizes a b x notion further enforcer s)
      ((same_starting t (header_at a) (header_at b) (same_symbols a b x t) (same_secret a b x) (same_k a b x) _ _ _ _).0 o) saved

  offer_to : (symbol : ℕ) (enforcer output release : List ℕ) (n : ℕ) (after out count : List ℕ) → Offer t a symbol enforcer output release n after out count
      → Offer t b symbol enforcer output release n after out count
  offer_to symbol enforcer output release n after out count (Offer.size bad) = Offer.size (λ s. bad (offer_sizes b a (headers_back a b x) enforcer release s))
  offer_to symbol enforcer output release n after out count (Offer.refused s o) =
      Offer.refused (offer_sizes a b x enforcer release s)
      ((same_offering t (header_at a) (header_at b) (same_symbols a b x t) (same_secret a b x) (same_k a b x) _ symbol output _ _ _).0 o)
  offer_to symbol enforcer output release n after out count (Offer.released s o saved) =
      Offer.released (offer_sizes a b x enforcer release s)
      ((same_offering t (header_at a) (header_at b) (same_symbols a b x t) (same_secret a b x) (same_k a b x) _ symbol output _ _ _).0 o) saved

  explore_to : (further : List ℕ) (budget : ℕ) (lent : List ℕ) (n : ℕ) (out : List ℕ) → Explore t a further budget lent n out
      → Explore t b further budget lent n out
  explore_to further budget lent n out (Explore.size bad) = Explore.size (λ s. bad (explore_sizes b a (headers_back a b x) further lent s))
  explore_to further budget lent n out (Explore.refused s o) =
      Explore.refused (explore_sizes a b x further lent s)
      ((same_exploring t (header_at a) (header_at b) (same_symbols a b x t) (same_secret a b x) (same_k a b x) _ _ _).0 o)
  explore_to further budget lent n out (Explore.explored s o saved) =
      Explore.explored (explore_sizes a b x further lent s)
      ((same_exploring t (header_at a) (header_at b) (same_symbols a b x t) (same_secret a b x) (same_k a b x) _ _ _).0 o) saved

  leak_to : (notion : ℕ) (further events place : List ℕ) (n : ℕ) (out : List ℕ) → FirstLeakCall t a notion further events place n out
      → FirstLeakCall t b notion further events place n out
  leak_to notion further events place n out (FirstLeakCall.size bad) =
      FirstLeakCall.size (λ s. bad (leak_sizes b a (headers_back a b x) notion further place s))
  leak_to notion further events place n out (FirstLeakCall.refused s o) =
      FirstLeakCall.refused (leak_sizes a b x notion further place s)
      ((same_finding t (header_at a) (header_at b) (same_symbols a b x t) (same_secret a b x) (same_k a b x) _ _ _ _).0 o)
  leak_to notion further events place n out (FirstLeakCall.found s {p = p} o saved) =
      FirstLeakCall.found (leak_sizes a b x notion further place s) {p = p}
      ((same_finding t (header_at a) (header_at b) (same_symbols a b x t) (same_secret a b x) (same_k a b x) _ _ _ _).0 o) saved

  witness_to : (notion secret k : ℕ) (estimator output run : List ℕ) (n : ℕ) (after out : List ℕ)
      → Witnessing t a notion secret k estimator output run n after out → Witnessing t b notion secret k estimator output run n after out
  witness_to notion secret k estimator output run n after out (Witnessing.size bad) =
      Witnessing.size (λ s. bad (witness_sizes b a (headers_back a b x) notion estimator run s))
  witness_to notion secret k estimator output run n after out (Witnessing.refused s o) =
      Witnessing.refused (witness_sizes a b x notion estimator run s)
      ((same_witness_writing t (header_at a) (header_at b) (same_symbols a b x t) (same_secret a b x) (same_k a b x) _ _ secret k output _ _).0 o)
  witness_to notion secret k estimator output run n after out (Witnessing.written s o saved) =
      Witnessing.written (witness_sizes a b x notion estimator run s)
      ((same_witness_writing t (header_at a) (header_at b) (same_symbols a b x t) (same_secret a b x) (same_k a b x) _ _ secret k output _ _).0 o) saved

  check_to : (notion secret k start : ℕ) (estimator pairs valid : List ℕ) (n : ℕ) (out : List ℕ)
      → CheckingWitness t a notion secret k start estimator pairs valid n out → CheckingWitness t b notion secret k start estimator pairs valid n out
  check_to notion secret k start estimator pairs valid n out (CheckingWitness.size bad) =
      CheckingWitness.size (λ s. bad (check_sizes b a (headers_back a b x) notion estimator valid s))
  check_to notion secret k start estimator pairs valid n out (CheckingWitness.refused s o) =
      CheckingWitness.refused (check_sizes a b x notion estimator valid s)
      ((same_witness_checking t (header_at a) (header_at b) (same_symbols a b x t) (same_secret a b x) (same_k a b x) _ _ secret k start pairs _).0 o)
  check_to notion secret k start estimator pairs valid n out (CheckingWitness.checked s holds o) =
      CheckingWitness.checked (check_sizes a b x notion estimator valid s) holds
      ((same_witness_checking t (header_at a) (header_at b) (same_symbols a b x t) (same_secret a b x) (same_k a b x) _ _ secret k start pairs _).0 o)

module _ (t a b : List ℕ) (x : SameHeaders a b) where
  pub same_fresh : (further estimator judgement : List ℕ) (n : ℕ) (after told : List ℕ)
      → Fresh t a further estimator judgement n after told ↔ Fresh t b further estimator judgement n after told
  same_fresh further estimator judgement n after told =
      (fresh_to t a b x further estimator judgement n after told, fresh_to t b a (headers_back a b x) further estimator judgement n after told)

  pub same_accept : (symbol : ℕ) (estimator judgement : List ℕ) (n : ℕ) (after told : List ℕ)
      → Accept t a symbol estimator judgement n after told ↔ Accept t b symbol estimator judgement n after told
  same_accept symbol estimator judgement n after told =
      (accept_to t a b x symbol estimator judgement n after told, accept_to t b a (headers_back a b x) symbol estimator judgement n after told)

  pub same_start : (notion : ℕ) (further enforcer : List ℕ) (n : ℕ) (after : List ℕ)
      → Start t a notion further enforcer n after ↔ Start t b notion further enforcer n after
  same_start notion further enforcer n after =
      (start_to t a b x notion further enforcer n after, start_to t b a (headers_back a b x) notion further enforcer n after)

  pub same_offer : (symbol : ℕ) (enforcer output release : List ℕ) (n : ℕ) (after out count : List ℕ)
      → Offer t a symbol enforcer output release n after out count ↔ Offer t b symbol enforcer output release n after out count
  same_offer symbol enforcer output release n after out count = (
    offer_to t a b x symbol enforcer output release n after out count,
    offer_to t b a (headers_back a b x) symbol enforcer output release n after out count,
  )

  pub same_explore : (further : List ℕ) (budget : ℕ) (lent : List ℕ) (n : ℕ) (out : List ℕ)
      → Explore t a further budget lent n out ↔ Explore t b further budget lent n out
  same_explore further budget lent n out =
      (explore_to t a b x further budget lent n out, explore_to t b a (headers_back a b x) further budget lent n out)

  pub same_leak : (notion : ℕ) (further events place : List ℕ) (n : ℕ) (out : List ℕ)
      → FirstLeakCall t a notion further events place n out ↔ FirstLeakCall t b notion further events place n out
  same_leak notion further events place n out =
      (leak_to t a b x notion further events place n out, leak_to t b a (headers_back a b x) notion further events place n out)

  pub same_witness : (notion secret k : ℕ) (estimator output run : List ℕ) (n : ℕ) (after out : List ℕ)
      → Witnessing t a notion secret k estimator output run n after out ↔ Witnessing t b notion secret k estimator output run n after out
  same_witness notion secret k estimator output run n after out = (
    witness_to t a b x notion secret k estimator output run n after out,
    witness_to t b a (headers_back a b x) notion secret k estimator output run n after out,
  )

  pub same_check : (notion secret k start : ℕ) (estimator pairs valid : List ℕ) (n : ℕ) (out : List ℕ)
      → CheckingWitness t a notion secret k start estimator pairs valid n out ↔ CheckingWitness t b notion secret k start estimator pairs valid n out
  same_check notion secret k start estimator pairs valid n out = (
    check_to t a b x notion secret k start estimator pairs valid n out,
    check_to t b a (headers_back a b x) notion secret k start estimator pairs valid n out,
  )
