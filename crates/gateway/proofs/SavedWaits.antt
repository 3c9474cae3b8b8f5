-- What an exploration says of a gateway that keeps bytes. Assumes nothing.
use Prim.Native.Nat.{ℕ, ◌<◌}
use mathlib.Core.Path.{◌≡◌, refl, ap, sym, subst}
use mathlib.Core.List.{List, [], ◌∷◌, ◌++◌, append_assoc}
use native.Mathlib.Omega.{arith}
use lib.ListN.{length, replicate}
use Rattle.lists.specs.Calls.{done, next}
use Rattle.lists.proofs.Chains.{joined_append}
use Rattle.automaton.specs.Run.{automaton_of, Possible, WellFormed}
use Rattle.automaton.proofs.Traces.{front_possible}
use Rattle.opacity.specs.declared.Notion.{Notion}
use Rattle.opacity.specs.Secrets.{cleared_of}
use Rattle.enforcer.specs.declared.Enforcer.{Enforcer}
use Rattle.enforcer.specs.declared.Release.{Release}
use Rattle.enforcer.specs.Enforcers.{GrownOn}
use Rattle.enforcer.specs.Offerings.{released, Offering}
use Rattle.enforcer.specs.Offers.{Offer, Offers, accepted_of, released_count}
use Rattle.enforcer.proofs.ThirdPoint.{After, held, started_after, third_point}
use Rattle.explore.specs.declared.Exploration.{Exploration}
use Rattle.explore.specs.Explorations.{limit_of, ExploredAll, Exploring}
use Rattle.waiting.specs.AcceptedLists.{OfferedFrom}
use Rattle.waiting.specs.LongestWaits.{wait_by, LongestWait}
use Rattle.waiting.proofs.Answering.{Answered, answered}
use Rattle.waiting.proofs.Waiting.{grows, exploration_waits}
use Rattle.waiting.proofs.Agreed.{past_exploring}
use Rattle.layout.specs.Sizes.{header_size, further_size, exploration_size}
use Rattle.layout.specs.Layout.{header_at, further_at, FurtherSized, notion_at, enforcer_at, enforcer_bytes, EnforcerSaved, release_bytes, exploration_at}
use Rattle.layout.proofs.Inverse.{enforcer_saved}
use Rattle.gateway.specs.Interface as interface
use Rattle.gateway.specs.Interface.{Decode, Start, Explore, ByExplore}
use Rattle.gateway.specs.SavedCalls.{OfferCall, OfferCalls, offer_of, offers_of, SavedLongestWait}
use Rattle.gateway.proofs.SavedPoints.{saved_length, saved_well_formed}
use Rattle.gateway.proofs.SavedSteps.{KeepsEnforcer, offer_calls, keeps_after}

-- the bytes of an exploration that answered 0 are what was explored: a refusal has no number 0
pub explored_back : (t header further : List ℕ) (budget : ℕ) (lent out : List ℕ) → Explore t header further budget lent 0 out
    → ExploredAll t (header_at header) (further_at further 0) (limit_of budget) (exploration_at out).number (exploration_at out).weak (exploration_at out).strong
explored_back t header further budget lent _ (Explore.refused _ x5) = elim x5 [ ]
explored_back t header further budget lent out (Explore.explored sizes (Exploring.explored_all x) saved) =
    subst (λ (e : Exploration). ExploredAll t (header_at header) (further_at further 0) (limit_of budget) e.number e.weak e.strong) (sym saved.back) x

-- calls on bytes exist: every possible trace is accepted from some
module _ (notion : Notion) (t header : List ℕ) (size : length header ≡ header_size) (well_formed : WellFormed t (header_at header)) where
  record CalledFrom (b symbols : List ℕ) : Type 0 where
    calls : List OfferCall
    end : List ℕ
    called : OfferCalls t header b calls end
    accepted : accepted_of (offers_of calls) ≡ symbols

  -- an enforcer that has grown is saved whole
  grown_sized : (trace : List ℕ) (s : Enforcer) → FurtherSized s.estimator.further → GrownOn notion t (header_at header) trace s → EnforcerSaved s
  grown_sized trace s f g = enforcer_saved s (record {
    estimator = record { symbols = g.estimator.symbols_size; entries = g.estimator.entries_size; words = g.estimator.entries_words; further = f };
    pending = g.pending_padded.size_is;
    waits = g.waits_padded.size_is;
  })

  kept : (s : Enforcer) (b : ℕ) (r : Release) (output : List ℕ) (m : Enforcer) (left : List ℕ) → Offering t (header_at header) s b output (released r) m left
      → m.estimator.further ≡ s.estimator.further
  kept s b r output m left (Offering.accepted so li wide ob same after bal front rest within exact) = same

  saved_list : (before b symbols : List ℕ) → KeepsEnforcer t header size b → FurtherSized (enforcer_at b).estimator.further
      → GrownOn notion t (header_at header) before (enforcer_at b) → Possible (automaton_of t (header_at header)) (before ++ symbols) → CalledFrom b symbols
  saved_list before b [] k f g possible = record { calls = []; end = b; called = done; accepted = refl }
  saved_list before b (x ∷ rest) k f g possible =
      go (answered notion t (header_at header) well_formed before (enforcer_at b) x (replicate 17 0) (omega arith) g
      (front_possible (automaton_of t (header_at header)) (before ++ x ∷ []) rest later))
      (λ m k' f' g'. saved_list (before ++ x ∷ []) m rest k' f' g' later)
    where
      later : Possible (automaton_of t (header_at header)) ((before ++ x ∷ []) ++ rest)
      later = subst (Possible (automaton_of t (header_at header))) (sym (append_assoc before (x ∷ []) rest)) possible

      -- one call in front of others
      put : (a : Answered t (header_at header) (enforcer_at b) x (replicate 17 0)) → EnforcerSaved a.after → CalledFrom (enforcer_bytes a.after) rest
          → CalledFrom b (x ∷ rest)
      put a saved y = record {
        calls = record { symbol = x; output = replicate 17 0; lent = replicate 2 0; answer = 0; left = a.left; release = release_bytes a.r } ∷ y.calls;
        end = y.end;
        called = next (interface.Offer.released (record { header-size = size; enforcer-size = k.size; notion_known = k.known; release-size = refl })
            a.offering saved) y.called;
        accepted = ap (λ (l : List ℕ). x ∷ l) y.accepted;
      }

      go : (a : Answered t (header_at header) (enforcer_at b) x (replicate 17 0))
          → ((m : List ℕ) → KeepsEnforcer t header size m → FurtherSized (enforcer_at m).estimator.further
          → GrownOn notion t (header_at header) (before ++ x ∷ []) (enforcer_at m) → CalledFrom m rest) → CalledFrom b (x ∷ rest)
      go a more =
          let m = a.after in
          let grown = grows notion t (header_at header) well_formed before (enforcer_at b) x a.r (replicate 17 0) m a.left g a.offering in
          let sized = subst FurtherSized (sym (kept (enforcer_at b) x a.r (replicate 17 0) m a.left a.offering)) f in
          let saved = grown_sized (before ++ x ∷ []) m sized grown in
          put a saved (more (enforcer_bytes m) (record { size = saved.size; known = saved.notion_known })
          (subst (λ (s : Enforcer). FurtherSized s.estimator.further) (sym saved.back) sized)
          (subst (GrownOn notion t (header_at header) (before ++ x ∷ [])) (sym saved.back) grown))

-- where an exploration and a start with the same secrets answered 0: its waits are the longest of the enforcer that the bytes hold
pub saved_waits : (t header a b : List ℕ) (budget : ℕ) (lent out : List ℕ) (notion : ℕ) (before s : List ℕ)
    → cleared_of (further_at a 0) ≡ cleared_of (further_at b 0) → Explore t header a budget lent 0 out → Start t header notion b before 0 s
    → SavedLongestWait t header s (wait_by (notion_at notion) (exploration_at out).weak (exploration_at out).strong)
saved_waits t header a b budget lent out notion before _ same x (Start.refused _ x8) = elim x8 [ ]
saved_waits t header a b budget lent out notion before s same x (Start.started sizes {s = fresh} start saved) = record {
  in_time = λ cs e f. longest.in_time (offers_of cs) (enforcer_at e) (offer_calls t header size s cs e keeps f);
  reached = λ some.
      let y = longest.reached some in
      let z = saved_list (notion_at notion) t header size begin.0 [] s y.trace keeps
      (subst (λ (r : Enforcer). FurtherSized r.estimator.further) (sym saved.back) saved.sized.estimator.further)
      (subst (GrownOn (notion_at notion) t (header_at header) []) (sym saved.back)
      (held (notion_at notion) t (header_at header) (further_at b 0) [] fresh begin.1))
      (offered_possible y.trace y.exists) in
      record {
        trace = y.trace;
        calls = z.calls;
        end = z.end;
        called = z.called;
        accepted = z.accepted;
        pending = λ cs later m e f is g few.
            subst (λ (os : List Offer). released_count os < length y.trace) (sym (joined_append offer_of cs later))
            (y.pending (offers_of cs) (offers_of later) (enforcer_at m) (enforcer_at e) (offer_calls t header size s cs m keeps f) is
            (offer_calls t header size m later e (keeps_after t header size s cs m keeps f) g) few);
      };
}
  where
    size : length header ≡ header_size
    size = sizes.header-size

    keeps : KeepsEnforcer t header size s
    keeps = record { size = saved.size; known = saved.notion_known }

    begin : WellFormed t (header_at header) × After (notion_at notion) t (header_at header) (further_at b 0) [] fresh
    begin = started_after (notion_at notion) t (header_at header) (further_at b 0) fresh start

    longest : LongestWait t (header_at header) (enforcer_at s) (wait_by (notion_at notion) (exploration_at out).weak (exploration_at out).strong)
    longest =
        subst (λ (r : Enforcer). LongestWait t (header_at header) r (wait_by (notion_at notion) (exploration_at out).weak (exploration_at out).strong))
        (sym saved.back)
        (exploration_waits t (header_at header) (further_at a 0) (further_at b 0) _ _ _ _
        (Exploring.explored_all (explored_back t header a budget lent out x)) same
        (notion_at notion) fresh start)

    -- what offers accept is possible
    offered_possible : (trace : List ℕ) → OfferedFrom t (header_at header) (enforcer_at s) trace → Possible (automaton_of t (header_at header)) trace
    offered_possible trace y =
        subst (Possible (automaton_of t (header_at header))) y.accepted
        (third_point (notion_at notion) t (header_at header) (further_at b 0) fresh y.offers y.end start
        (subst (λ (r : Enforcer). Offers t (header_at header) r y.offers y.end) saved.back y.offered)).grown.possible

-- after a decode that answered 0, with slices of their lengths: refused by 13, 14 and 15 only, each on its condition
pub saved_explore : (encoding table before t header further : List ℕ) (budget : ℕ) (lent : List ℕ) (answer : ℕ) (out : List ℕ)
    → Decode encoding table before 0 t header → length further ≡ further_size → length lent ≡ exploration_size
    → Explore t header further budget lent answer out → ByExplore t (header_at header) (further_at further 0) budget answer
saved_explore encoding table before t header further budget lent answer out x f e (Explore.size bad) =
    absurd (bad (record { header-size = saved_length encoding table before t header x; further-size = f; exploration-size = e }))
saved_explore encoding table before t header further budget lent answer out x f e (Explore.refused _ (Exploring.malformed bad)) =
    absurd (bad (saved_well_formed encoding table before t header x))
saved_explore encoding table before t header further budget lent answer out x f e (Explore.refused _ (Exploring.too_many_secrets so many)) =
    ByExplore.too_many many
saved_explore encoding table before t header further budget lent answer out x f e (Explore.refused _ (Exploring.look_back_too_large so few large)) =
    ByExplore.too_large few large
saved_explore encoding table before t header further budget lent answer out x f e (Explore.refused _ (Exploring.budget_spent so allowed more)) =
    ByExplore.spent allowed more
saved_explore encoding table before t header further budget lent answer out x f e
    (Explore.explored _ (Exploring.explored_all e₁) saved) = ByExplore.explored e₁.allowed e₁.few e₁.number_is

-- what stands past the count in the bytes of further secrets counts for nothing
pub explore_past_count : (t header a b : List ℕ) (budget : ℕ) (lent : List ℕ) (answer : ℕ) (out : List ℕ) → length a ≡ further_size → length b ≡ further_size
    → cleared_of (further_at a 0) ≡ cleared_of (further_at b 0) → Explore t header a budget lent answer out → Explore t header b budget lent answer out
explore_past_count t header a b budget lent answer out sa sb same (Explore.size bad) =
    Explore.size (λ s. bad (record { header-size = s.header-size; further-size = sa; exploration-size = s.exploration-size }))
explore_past_count t header a b budget lent answer out sa sb same (Explore.refused sizes x) =
    Explore.refused (record { header-size = sizes.header-size; further-size = sb; exploration-size = sizes.exploration-size })
    (past_exploring (further_at a 0) (further_at b 0) same t (header_at header) _ _ x)
explore_past_count t header a b budget lent answer out sa sb same (Explore.explored sizes x saved) =
    Explore.explored (record { header-size = sizes.header-size; further-size = sb; exploration-size = sizes.exploration-size })
    (past_exploring (further_at a 0) (further_at b 0) same t (header_at header) _ _ x) saved
