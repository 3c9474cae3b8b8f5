-- Fresh estimators and lists of calls under two headers that are the same but for symbols. Where they tell the same observable events apart, they are
-- answered alike, call by call; where they differ in the symbols of unobservable events alone, the contracts say the same. Assumes nothing.
use mathlib.Core.Path.{◌≡◌, refl, ap, ap₂, sym, subst, ◌∙◌}
use mathlib.Core.List.{List, [], ◌∷◌, ◌++◌}
use mathlib.Core.Logic.{inl, inr, ◌↔◌}
use Prim.Native.Nat.{ℕ, suc, ◌<◌, ◌^◌}
use native.Mathlib.Omega.{arith}
use lib.ListN.{length, get_or}
use Rattle.lists.specs.Calls.{done, end, more}
use Rattle.automaton.specs.Run.{automaton_of, WellFormed}
use Rattle.automaton.specs.Symbols.{
  WithoutSymbols,
  Distinct,
  SameButSymbols,
  Alike,
  SameSymbols,
  OneEvent,
  SameByte,
  of_event,
  of_none,
  Pairs,
  no_more,
  both,
  SameEvents,
}
use Rattle.automaton.specs.declared.Header.{Header}
use Rattle.automaton.proofs.Agreeing.{possible_agree, impossible_agree, size_agree}
use Rattle.automaton.proofs.Spelling.{no_events, one_event, join_events, alike_agree, alike_impossible, distinct_alike, spelled_own, same_agree}
use Rattle.automaton.proofs.Headers.{both_observable, own_well_formed, same_observable, same_well_formed, relabelled, same-header}
use Rattle.opacity.specs.declared.Notion.{Notion}
use Rattle.opacity.specs.declared.Notion.TheVariants.{Weak, Strong}
use Rattle.opacity.specs.declared.Secret.{Secret}
use Rattle.opacity.specs.declared.Further.{Further}
use Rattle.verifier.specs.declared.Estimator.{Estimator}
use Rattle.opacity.specs.Secrets.{further_of, secrets_of, secret_at, ForEach, look_back_of}
use Rattle.opacity.specs.Verdicts.{Steps, none, Exactly}
use Rattle.verifier.specs.Estimators.{GrownOn}
use Rattle.verifier.specs.Replies.{
  Told,
  Findings,
  told_at,
  Said,
  refused,
  verdicts,
  Exact,
  Opening,
  opened,
  Accepting,
  not_observable,
  incompatible,
  accepted,
  SaidBy,
  AcceptingBy,
  turned_back,
  accepted_by,
}
use Rattle.verifier.specs.Calls.{Call, Calls, taken_by, Right, Answered, AllAnswered}
use Rattle.verifier.specs.Paired.{SameCalled, Corresponds, CallsFollow}
use Rattle.verifier.proofs.Agreed.{alike_words, sizes_agree, same_tells, same_grown}
use Rattle.opacity.proofs.Numbering.{allowed_not_large}
use Rattle.verifier.proofs.SecondPoint.{second_point}

-- lists of verdicts that tell the same of each number
pub same_told : (vs vs' : List Told) → length vs ≡ length vs' → ((notion : Notion) (i : ℕ) → i < length vs → told_at notion vs i ≡ told_at notion vs' i)
    → vs ≡ vs'
same_told [] [] e each = refl
same_told [] (v ∷ vs) e each = absurd (omega arith)
same_told (v ∷ vs) [] e each = absurd (omega arith)
same_told (v ∷ vs) (v' ∷ vs') e each =
    let weak : v.weak ≡ v'.weak = each Weak 0 (omega arith) in
    let strong : v.strong ≡ v'.strong = each Strong 0 (omega arith) in
    ap₂ (λ (x y : Steps). record { weak = x; strong = y } ∷ vs) weak strong
    ∙ ap (λ (xs : List Told). v' ∷ xs) (same_told vs vs' (omega arith) (λ notion i h. each notion (suc i) (omega arith)))

module _ (t : List ℕ) (h h' : Header) (like : Alike (automaton_of t h) (automaton_of t h')) (secret : h.secret ≡ h'.secret) (k : h.k ≡ h'.k)
    (given : Further) where
  abbrev Same : List ℕ → List ℕ → Type 0
  Same a b = SameEvents (automaton_of t h) (automaton_of t h') a b

  -- the secrets are the same
  secrets : secrets_of h given ≡ secrets_of h' given
  secrets = ap₂ (λ (s n : ℕ). record { states = s; k = n } ∷ further_of given) secret k

  -- verdicts of one secret by definition are equal over the same events
  exactly_alike : (notion : Notion) (c : Secret) (a b : List ℕ) (v v' : Steps) → Same a b → Exactly notion (automaton_of t h) c a v
      → Exactly notion (automaton_of t h') c b v' → v ≡ v'
  exactly_alike notion c a b v v' x y z = sym ((z v).1 ((alike_words _ _ like a b x c notion v).0 ((y v).0 refl)))

  right_alike : (a b : List ℕ) (j : Findings) (j' : Findings) → Same a b → Right t h given a j → Right t h' given b j'
      → verdicts j ≡ verdicts j'
  right_alike a b j j' x y z =
      let size = sizes_agree _ _ a b (alike_agree _ _ like a b x) j.size j'.size y.size z.size in
      let many : length j.each ≡ length j'.each = y.as_many ∙ ap length secrets ∙ sym z.as_many in
      let others : (notion : Notion) → ForEach (secrets_of h given) (λ i c. Exactly notion (automaton_of t h') c b (told_at notion j'.each i)) =
      λ notion. subst (λ (cs : List Secret). ForEach cs (λ i c. Exactly notion (automaton_of t h') c b (told_at notion j'.each i))) (sym secrets)
      (z.each notion) in
      let each = same_told j.each j'.each many (λ notion i less.
      let g : i < length (secrets_of h given) = omega (arith, y.as_many) in
      exactly_alike notion (secret_at (secrets_of h given) i) a b _ _ x (y.each notion i g) (others notion i g)) in
      ap₂ (λ (vs : List Told) (n : ℕ). verdicts (record { each = vs; size = n })) each size

  -- one pair of calls, after traces with the same events behind them
  record OnePair (x y : ℕ) (r r' : Said) : Type 0 where
    says : r ≡ r'
    taken : Same (taken_by r x) (taken_by r' y)

  module _ (a b : List ℕ) (s : Same a b) (x y : ℕ) where
    one_more : OneEvent (automaton_of t h) (automaton_of t h') x y → Same (a ++ x ∷ []) (b ++ y ∷ [])
    one_more e = join_events _ _ a b _ _ s (one_event _ _ x y e)

    one_pair : SameByte t h h' x y → (r r' : Said) → Answered t h given a x r → Answered t h' given b y r' → OnePair x y r r'
    one_pair (of_none never never') (verdicts j) r' f f' = absurd (never f.0)
    one_pair (of_none never never') (refused m) (verdicts j) f f' = absurd (never' f'.0)
    one_pair (of_none never never') (refused m) (refused n) (inr f) f' = absurd (never f.1)
    one_pair (of_none never never') (refused m) (refused n) (inl f) (inr f') = absurd (never' f'.1)
    one_pair (of_none never never') (refused m) (refused n) (inl f) (inl f') = record { says = ap refused (f.0 ∙ sym f'.0); taken = no_events _ _ }
    one_pair (of_event e) (refused m) r' (inl f) f' = absurd (f.1 (both_observable t h h' like.same x y e).0)
    one_pair (of_event e) (refused m) (refused n) (inr f) (inl f') = absurd (f'.1 (both_observable t h h' like.same x y e).1)
    one_pair (of_event e) (refused m) (refused n) (inr f) (inr f') = record { says = ap refused (f.0 ∙ sym f'.0); taken = no_events _ _ }
    one_pair (of_event e) (refused m) (verdicts j) (inr f) f' =
        absurd ((alike_impossible _ _ like _ _ (one_more e)).0 f.2 f'.1.run f'.1.compatible)
    one_pair (of_event e) (verdicts j) (refused n) f (inl f') = absurd (f'.1 (both_observable t h h' like.same x y e).1)
    one_pair (of_event e) (verdicts j) (refused n) f (inr f') =
        absurd ((alike_impossible _ _ like _ _ (one_more e)).1 f'.2 f.1.run f.1.compatible)
    one_pair (of_event e) (verdicts j) (verdicts j') f f' =
        record { says = right_alike _ _ j j' (one_more e) f.2 f'.2; taken = one_event _ _ x y e }

  all_pairs : (a b : List ℕ) (cs cs' : List Call) → Same a b → Pairs (SameCalled t h h') cs cs' → AllAnswered t h given a cs → AllAnswered t h' given b cs'
      → Corresponds (automaton_of t h) (automaton_of t h') cs cs'
  all_pairs a b cs cs' s no_more end end = record { answers = no_more; accepted = no_events _ _ }
  all_pairs a b cs cs' s (both {x = c} {y = c'} {xs = rest} {ys = rest'} same pairs) (more f fs) (more f' fs') =
      let y = one_pair a b s c.byte c'.byte same c.says c'.says f f' in
      let z : Corresponds (automaton_of t h) (automaton_of t h') rest rest' =
      all_pairs (a ++ taken_by c.says c.byte) (b ++ taken_by c'.says c'.byte) rest rest' (join_events _ _ a b _ _ s y.taken) pairs fs fs' in
      record { answers = both y.says z.answers; accepted = join_events _ _ _ _ _ _ y.taken z.accepted }

  -- THE THEOREM of S-2 for lists of calls: fresh estimators that were not refused have the same opening verdicts and number of possible states, and what
  -- follows corresponds
  pub alike_calls : (j : Findings) (j' : Findings) (s s' : Estimator) (cs cs' : List Call) (e e' : Estimator)
      → Opening t h given (verdicts j) s → Opening t h' given (verdicts j') s'
      → Pairs (SameCalled t h h') cs cs' → Calls t h s cs e → Calls t h' s' cs' e'
      → (verdicts j ≡ verdicts j') × Corresponds (automaton_of t h) (automaton_of t h') cs cs'
  alike_calls j j' s s' cs cs' e e' o o' pairs f f' =
      let x = second_point t h given j s cs e o f in
      let y = second_point t h' given j' s' cs' e' o' f' in (
        right_alike [] [] j j' (no_events _ _) x.opening y.opening,
        all_pairs [] [] cs cs' (no_events _ _) pairs x.answered y.answered,
      )

  -- fresh estimators are refused alike: 9 where the headers are automata alike, 13 and 14 by the further secrets
  pub alike_openings : WellFormed t h ↔ WellFormed t h' → (r r' : Said) (s s' : Estimator) → Opening t h given r s → Opening t h' given r' s' → r ≡ r'
  alike_openings sounds r r' s s' x y = go x y
    where
      go : {r r' : Said} → Opening t h given r s → Opening t h' given r' s' → r ≡ r'
      go (Opening.malformed bad out) (Opening.malformed bad' out') = refl
      go (Opening.malformed bad out) (Opening.too_many_secrets so many out') = absurd (bad (sounds.1 so))
      go (Opening.malformed bad out) (Opening.look_back_too_large so few large out') = absurd (bad (sounds.1 so))
      go (Opening.malformed bad out) (opened so al same li many n f) = absurd (bad (sounds.1 so))
      go (Opening.too_many_secrets so many out) (Opening.malformed bad out') = absurd (bad (sounds.0 so))
      go (Opening.too_many_secrets so many out) (Opening.too_many_secrets so' many' out') = refl
      go (Opening.too_many_secrets so many out) (Opening.look_back_too_large so' few large out') = absurd (omega arith)
      go (Opening.too_many_secrets so many out) (opened so' al same li n i f) = absurd (omega (arith, al.few))
      go (Opening.look_back_too_large so few large out) (Opening.malformed bad out') = absurd (bad (sounds.0 so))
      go (Opening.look_back_too_large so few large out) (Opening.too_many_secrets so' many out') = absurd (omega arith)
      go (Opening.look_back_too_large so few large out) (Opening.look_back_too_large so' few' large' out') = refl
      go (Opening.look_back_too_large so few large out) (opened so' al same li n i f) = absurd (allowed_not_large given al large)
      go (opened so al same li n i f) (Opening.malformed bad out) = absurd (bad (sounds.0 so))
      go (opened so al same li n i f) (Opening.too_many_secrets so' many out) = absurd (omega (arith, al.few))
      go (opened so al same li n i f) (Opening.look_back_too_large so' few large out) = absurd (allowed_not_large given al large)
      go (opened {j = j} so al same li many i f) (opened {j = j'} so' al' same' li' many' i' f') =
          (alike_calls j j' s s' [] [] s s' (opened so al same li many i f) (opened so' al' same' li' many' i' f') no_more done done).0

opened_well_formed : (t : List ℕ) (h : Header) (given : Further) (j : Findings) (s : Estimator) → Opening t h given (verdicts j) s → WellFormed t h
opened_well_formed t h given j s (opened so al same li n i x) = so

-- so where no two observable events share a symbol: fresh estimators with symbols and without are answered alike, and what is then accepted is the symbols
-- of what is without symbols
module _ (t : List ℕ) (h h' : Header) (d : Distinct (automaton_of t h)) (n : WithoutSymbols (automaton_of t h'))
    (same : SameButSymbols (automaton_of t h) (automaton_of t h')) (secret : h.secret ≡ h'.secret) (k : h.k ≡ h'.k) (small : h.observable < 2 ^ 32)
    (given : Further) where
  pub distinct_openings : WellFormed t h → (r r' : Said) (s s' : Estimator) → Opening t h given r s → Opening t h' given r' s' → r ≡ r'
  distinct_openings so r r' s s' o o' =
      let so' = own_well_formed t h h' same n (omega (arith, same.observable)) k so in
      alike_openings t h h' (distinct_alike _ _ d n same) secret k given (λ x. so', λ x. so) r r' s s' o o'

  follow : (j : Findings) (s s' : Estimator) → Opening t h given (verdicts j) s → Opening t h' given (verdicts j) s' → CallsFollow t h h' s s'
  follow j s s' o o' cs cs' e e' pairs f f' =
      let x = alike_calls t h h' (distinct_alike _ _ d n same) secret k given j j s s' cs cs' e e' o o' pairs f f' in
      (x.1, (spelled_own _ _ _ _ n same x.1.accepted).1)

  -- the one with symbols was not refused
  pub distinct_calls : (j : Findings) (r' : Said) (s s' : Estimator) → Opening t h given (verdicts j) s → Opening t h' given r' s'
      → (r' ≡ verdicts j) × CallsFollow t h h' s s'
  distinct_calls j r' s s' o o' =
      let e = sym (distinct_openings (opened_well_formed t h given j s o) (verdicts j) r' s s' o o') in
      (e, follow j s s' o (subst (λ (r : Said). Opening t h' given r s') e o'))

  -- the one without symbols was not
  pub distinct_calls_back : WellFormed t h → (r : Said) (j : Findings) (s s' : Estimator) → Opening t h given r s → Opening t h' given (verdicts j) s'
      → (r ≡ verdicts j) × CallsFollow t h h' s s'
  distinct_calls_back so r j s s' o o' =
      let e = distinct_openings so r (verdicts j) s s' o o' in
      (e, follow j s s' (subst (λ (r : Said). Opening t h given r s) e o) o')

-- ---- an unobservable event's symbol counts for nothing

module _ (t : List ℕ) (h : Header) (symbols : List ℕ) (g : SameSymbols (automaton_of t h) (automaton_of t (relabelled h symbols))) where
  -- the secrets and the largest K are those of the header as it was
  exact_to : (cs : List Secret) (trace : List ℕ) (j : Findings) (s : Estimator) → Exact t h cs trace j s → Exact t (relabelled h symbols) cs trace j s
  exact_to cs trace j s x =
      record {
        possible = possible_agree _ _ trace trace (same_agree _ _ g trace) x.possible;
        size = size_agree _ _ trace trace (same_agree _ _ g trace) j.size x.size;
        tells = λ notion i given. (same_tells _ _ g trace (secret_at cs i) notion (told_at notion j.each i)).0 (x.tells notion i given);
        grown = (grown_to trace s).0 x.grown;
      }
    where
      grown_to : (trace : List ℕ) (s : Estimator) → GrownOn t h trace s ↔ GrownOn t (relabelled h symbols) trace s
      grown_to trace s = same_grown _ _ g trace (look_back_of h s.further) s

  opening_to : (f : Further) (r : Said) (s : Estimator) → Opening t h f r s → Opening t (relabelled h symbols) f r s
  opening_to f r s (Opening.malformed bad out) = Opening.malformed (λ so. bad ((same_well_formed t h (relabelled h symbols) g refl).1 so)) out
  opening_to f r s (Opening.too_many_secrets so many out) = Opening.too_many_secrets ((same_well_formed t h (relabelled h symbols) g refl).0 so) many out
  opening_to f r s (Opening.look_back_too_large so few large out) =
      Opening.look_back_too_large ((same_well_formed t h (relabelled h symbols) g refl).0 so) few large out
  opening_to f r s (opened so al same li n i x) =
      opened ((same_well_formed t h (relabelled h symbols) g refl).0 so) al same li n i (exact_to (secrets_of h f) [] _ s x)

  grown_back : (trace : List ℕ) (self : Estimator) → GrownOn t (relabelled h symbols) trace self → GrownOn t h trace self
  grown_back trace self x = (same_grown _ _ g trace (look_back_of h self.further) self).1 x

  accepting_to : (self : Estimator) (byte : ℕ) (r : Said) (s : Estimator) → Accepting t h self byte r s → Accepting t (relabelled h symbols) self byte r s
  accepting_to self byte r s (Accepting.malformed bad) =
      Accepting.malformed (λ x. bad ((same_well_formed t h (relabelled h symbols) g refl).1 x.0, x.1))
  accepting_to self byte r s (not_observable so li never) =
      not_observable ((same_well_formed t h (relabelled h symbols) g refl).0 so) li (λ o. never ((same_observable t h (relabelled h symbols) g byte).1 o))
  accepting_to self byte r s (incompatible so li ob nobody) =
      incompatible ((same_well_formed t h (relabelled h symbols) g refl).0 so) li ((same_observable t h (relabelled h symbols) g byte).0 ob)
      (λ trace x. impossible_agree _ _ _ _ (same_agree _ _ g (trace ++ byte ∷ [])) (nobody trace (grown_back trace self x)))
  accepting_to self byte r s (accepted so li ob same after many bounded i exact) =
      accepted ((same_well_formed t h (relabelled h symbols) g refl).0 so) li ((same_observable t h (relabelled h symbols) g byte).0 ob) same after many bounded i
      (λ trace x. exact_to (secrets_of h self.further) (trace ++ byte ∷ []) _ s (exact trace (grown_back trace self x)))

  accepting_by_to : (notion : Notion) (self : Estimator) (byte : ℕ) (r : SaidBy) (s : Estimator) → AcceptingBy notion t h self byte r s
      → AcceptingBy notion t (relabelled h symbols) self byte r s
  accepting_by_to notion self byte r s (turned_back x) = turned_back (accepting_to self byte _ s x)
  accepting_by_to notion self byte r s (accepted_by {j = j} m many each) =
      accepted_by (record {
        well_formed = (same_well_formed t h (relabelled h symbols) g refl).0 m.well_formed;
        limits = m.limits;
        observable = (same_observable t h (relabelled h symbols) g byte).0 m.observable;
        same = m.same;
        limits_after = m.limits_after;
        size_within = m.size_within;
        size = λ trace x. size_agree _ _ _ _ (same_agree _ _ g (trace ++ byte ∷ [])) j.size (m.size trace (grown_back trace self x));
        grown = λ trace x. (same_grown _ _ g (trace ++ byte ∷ []) (look_back_of h s.further) s).0 (m.grown trace (grown_back trace self x));
      }) many (λ i given.
      let v = each i given in
      let c = secret_at (secrets_of h self.further) i in
      record {
        bounded = v.bounded;
        tells = λ trace x. (same_tells _ _ g (trace ++ byte ∷ []) c notion (get_or j.each i none)).0 (v.tells trace (grown_back trace self x));
      })

module _ (t : List ℕ) (h h' : Header) (g : SameSymbols (automaton_of t h) (automaton_of t h')) (secret : h.secret ≡ h'.secret) (k : h.k ≡ h'.k) where
  pub same_opening : (f : Further) (r : Said) (s : Estimator) → Opening t h f r s ↔ Opening t h' f r s
  same_opening f r s = same-header t (λ x. Opening t x f r s) (λ h symbols g. opening_to t h symbols g f r s) h h' g secret k

  pub same_accepting : (self : Estimator) (byte : ℕ) (r : Said) (s : Estimator) → Accepting t h self byte r s ↔ Accepting t h' self byte r s
  same_accepting self byte r s = same-header t (λ x. Accepting t x self byte r s) (λ h symbols g. accepting_to t h symbols g self byte r s) h h' g secret k

  pub same_accepting_by : (notion : Notion) (self : Estimator) (byte : ℕ) (r : SaidBy) (s : Estimator)
      → AcceptingBy notion t h self byte r s ↔ AcceptingBy notion t h' self byte r s
  same_accepting_by notion self byte r s =
      same-header t (λ x. AcceptingBy notion t x self byte r s) (λ h symbols g. accepting_by_to t h symbols g notion self byte r s) h h' g secret k
