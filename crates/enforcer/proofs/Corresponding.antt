-- Starts and lists of offers under two headers that are the same but for symbols. Where they tell the same observable events apart, they are answered
-- alike, offer by offer, and what is accepted and released has the same events behind it; where they differ in the symbols of unobservable events alone,
-- the contracts say the same. Assumes nothing.
use mathlib.Core.Path.{◌≡◌, refl, ap, ap₂, sym, subst, ◌∙◌}
use mathlib.Core.List.{List, [], ◌∷◌, ◌++◌}
use mathlib.Core.Logic.{◌⊎◌, inl, inr, ◌↔◌}
use Prim.Native.Nat.{ℕ, ◌+◌, ◌-◌, ◌≤◌, ◌<◌, ◌^◌}
use native.Mathlib.Omega.{arith}
use lib.ListN.{length, take, drop}
use Rattle.automaton.specs.Run.{Automaton, automaton_of, WellFormed}
use Rattle.automaton.specs.Symbols.{
  WithoutSymbols,
  Distinct,
  SameButSymbols,
  Alike,
  SameSymbols,
  SameByte,
  of_event,
  of_none,
  Pairs,
  no_more,
  both,
  SameEvents,
}
use Rattle.automaton.specs.declared.Header.{Header}
use Rattle.automaton.proofs.Spelling.{
  no_events,
  one_event,
  join_events,
  take_events,
  drop_events,
  alike_agree,
  alike_possible,
  alike_impossible,
  distinct_alike,
  spelled_own,
  same_agree,
}
use Rattle.automaton.proofs.Agreeing.{possible_agree, impossible_agree, size_agree}
use Rattle.automaton.proofs.Headers.{both_observable, own_well_formed, same_observable, same_well_formed, relabelled, same-header}
use Rattle.opacity.specs.declared.Notion.{Notion}
use Rattle.opacity.specs.declared.Secret.{Secret}
use Rattle.opacity.specs.declared.Further.{Further}
use Rattle.opacity.specs.Secrets.{further_of, secrets_of, ForEach, Allowed, TooLarge}
use Rattle.opacity.specs.Verdicts.{Steps, none, leak, Tells}
use Rattle.opacity.proofs.Numbering.{allowed_not_large}
use Rattle.opacity.proofs.Exactness.{in_words, exactly}
use Rattle.verifier.proofs.Agreed.{alike_tells, sizes_agree, same_tells}
use Rattle.enforcer.specs.SafePrefix.{SafeForAll}
use Rattle.lists.specs.Calls.{done, next}
use Rattle.enforcer.specs.Queues.{Longest}
use Rattle.enforcer.specs.Enforcers.{secrets_in}
use Rattle.enforcer.specs.Offerings.{StartOutcome, OfferOutcome, refused, released, not_started, started, OpensAsLeak, Starting, Offering}
use Rattle.enforcer.specs.Offers.{
  Offer,
  Offered,
  Offers,
  taken_by,
  count_by,
  TurnedBack,
  output_too_small,
  not_observable,
  incompatible,
  LetThrough,
  Answered,
}
use Rattle.enforcer.specs.Paired.{SameOffered, SameAnswered, Corresponds, OffersFollow}
use Rattle.enforcer.specs.declared.Enforcer.{Enforcer}
use Rattle.enforcer.proofs.Agreed.{alike_longest, same_grown}
use Rattle.enforcer.proofs.Unique.{one_longest}
use Rattle.enforcer.proofs.ThirdPoint as third
use Rattle.enforcer.proofs.ThirdPoint.{After, started_after}

-- the secrets that are given are the same where the automaton's own is
same_own : (h h' : Header) (f : Further) → h.secret ≡ h'.secret → h.k ≡ h'.k → secrets_of h f ≡ secrets_of h' f
same_own h h' f secret k = ap₂ (λ (w n : ℕ). secret_with w n ∷ further_of f) secret k
  where
    secret_with : ℕ → ℕ → Secret
    secret_with w n = record { states = w; k = n }

-- the table gives one answer
module _ (t : List ℕ) (h : Header) (trace : List ℕ) (x : ℕ) (output : List ℕ) where
  one_number : (m n : ℕ) → TurnedBack t h trace x output m → TurnedBack t h trace x output n → m ≡ n
  one_number m n (output_too_small few) (output_too_small few') = refl
  one_number m n (output_too_small few) (not_observable wide never) = absurd (omega arith)
  one_number m n (output_too_small few) (incompatible wide ob nobody) = absurd (omega arith)
  one_number m n (not_observable wide never) (output_too_small few) = absurd (omega arith)
  one_number m n (not_observable wide never) (not_observable wide' never') = refl
  one_number m n (not_observable wide never) (incompatible wide' ob nobody) = absurd (never ob)
  one_number m n (incompatible wide ob nobody) (output_too_small few) = absurd (omega arith)
  one_number m n (incompatible wide ob nobody) (not_observable wide' never) = absurd (never ob)
  one_number m n (incompatible wide ob nobody) (incompatible wide' ob' nobody') = refl

  not_both : (n : ℕ) → TurnedBack t h trace x output n → LetThrough t h trace x output → ⊥
  not_both n (output_too_small few) y = omega (arith, y.room)
  not_both n (not_observable wide never) y = never y.observable
  not_both n (incompatible wide ob nobody) y = nobody y.possible.run y.possible.compatible

module _ (t : List ℕ) (h h' : Header) (like : Alike (automaton_of t h) (automaton_of t h')) where
  abbrev Same : List ℕ → List ℕ → Type 0
  Same a b = SameEvents (automaton_of t h) (automaton_of t h') a b

  -- after traces with the same events behind them, the table judges two offers of the same alike
  module _ (a b : List ℕ) (x : Same a b) (o o' : Offer) (offered : SameOffered t h h' o o') where
    turned_too : (n : ℕ) → SameByte t h h' o.byte o'.byte → TurnedBack t h a o.byte o.output n → TurnedBack t h' b o'.byte o'.output n
    turned_too n same (output_too_small few) = output_too_small (omega (arith, offered.outputs))
    turned_too n (of_event e) (not_observable wide never) = absurd (never (both_observable t h h' like.same o.byte o'.byte e).0)
    turned_too n (of_none never never') (not_observable wide _) = not_observable (omega (arith, offered.outputs)) never'
    turned_too n (of_event e) (incompatible wide ob nobody) =
        incompatible (omega (arith, offered.outputs)) (both_observable t h h' like.same o.byte o'.byte e).1
        ((alike_impossible _ _ like _ _ (join_events _ _ a b _ _ x (one_event _ _ o.byte o'.byte e))).0 nobody)
    turned_too n (of_none never never') (incompatible wide ob nobody) = absurd (never ob)

    through_too : SameByte t h h' o.byte o'.byte → LetThrough t h a o.byte o.output → LetThrough t h' b o'.byte o'.output
    through_too (of_event e) y =
        record {
          room = omega (arith, y.room, offered.outputs);
          observable = (both_observable t h h' like.same o.byte o'.byte e).1;
          possible = (alike_possible _ _ like _ _ (join_events _ _ a b _ _ x (one_event _ _ o.byte o'.byte e))).0 y.possible;
        }
    through_too (of_none never never') y = absurd (never y.observable)

    -- what is taken in has the same event behind it, and the answers are equal once their counts are
    record JudgedAlike (r r' : OfferOutcome) : Type 0 where
      taken : Same (taken_by r o.byte) (taken_by r' o'.byte)
      says : count_by r ≡ count_by r' → r ≡ r'

    judged_alike : (r r' : OfferOutcome) → Answered t h a o r → Answered t h' b o' r' → JudgedAlike r r'
    judged_alike (refused m) (refused n) y z =
        record {
          taken = no_events _ _;
          says = λ c. ap refused (one_number t h' b o'.byte o'.output m n (turned_too m offered.bytes y) z);
        }
    judged_alike (refused m) (released f) y z = absurd (not_both t h' b o'.byte o'.output m (turned_too m offered.bytes y) z.0)
    judged_alike (released f) (refused n) y z = absurd (not_both t h' b o'.byte o'.output n z (through_too offered.bytes y.0))
    judged_alike (released f) (released g) y z = record { taken = taken; says = λ c. ap₂ (λ (m n : ℕ). released (record { count = m; size = n })) c sizes }
      where
        one : SameByte t h h' o.byte o'.byte → Same (o.byte ∷ []) (o'.byte ∷ [])
        one (of_event e) = one_event _ _ o.byte o'.byte e
        one (of_none never never') = absurd (never y.0.observable)

        taken : Same (o.byte ∷ []) (o'.byte ∷ [])
        taken = one offered.bytes

        sizes : f.size ≡ g.size
        sizes = sizes_agree _ _ _ _ (alike_agree _ _ like _ _ (join_events _ _ a b _ _ x taken)) f.size g.size y.1 z.1

  module _ (notion : Notion) (f : Further) (secret : h.secret ≡ h'.secret) (k : h.k ≡ h'.k) where
    -- enforcers of traces with the same events behind them have released as many
    as_many : (a b : List ℕ) (s s' : Enforcer) → Same a b → After notion t h f a s → After notion t h' f b s' → length a - s.count ≡ length b - s'.count
    as_many a b s s' x g g' =
        let S = SafeForAll notion (automaton_of t h') (secrets_of h' f) in
        let l : Longest S b (length a - s.count) =
        subst (λ (cs : List Secret). Longest (SafeForAll notion (automaton_of t h') cs) b (length a - s.count)) (same_own h h' f secret k)
        (alike_longest _ _ like a b x (secrets_of h f) notion (length a - s.count) g.grown.queue.longest) in
        one_longest S b (length a - s.count) (length b - s'.count) l g'.grown.queue.longest

    module _ (well_formed : WellFormed t h) (well-formed' : WellFormed t h') where
      abbrev AfterA : List ℕ → Enforcer → Type 0
      AfterA a s = After notion t h f a s

      abbrev AfterB : List ℕ → Enforcer → Type 0
      AfterB b s = After notion t h' f b s

      -- one pair of offers
      record OnePair (a b : List ℕ) (o o' : Offer) (m m' : Enforcer) : Type 0 where
        taken : Same (taken_by o.says o.byte) (taken_by o'.says o'.byte)
        answered : SameAnswered (automaton_of t h) (automaton_of t h') o o'
        after : AfterA (a ++ taken_by o.says o.byte) m
        after' : AfterB (b ++ taken_by o'.says o'.byte) m'

      one_pair : (a b : List ℕ) (s s' : Enforcer) (o o' : Offer) (m m' : Enforcer) → Same a b → AfterA a s → AfterB b s' → SameOffered t h h' o o'
          → Offered t h s o m → Offered t h' s' o' m' → OnePair a b o o' m m'
      one_pair a b s s' o o' m m' x g g' offered step step' =
          let y = third.one notion t h f well_formed a s o.byte o.output o.says m o.left g step in
          let z = third.one notion t h' f well-formed' b s' o'.byte o'.output o'.says m' o'.left g' step' in
          let j = judged_alike a b x o o' offered o.says o'.says y.judged z.judged in
          let a1 = a ++ taken_by o.says o.byte in
          let b1 = b ++ taken_by o'.says o'.byte in
          let x1 : Same a1 b1 = join_events _ _ a b _ _ x j.taken in
          let before = as_many a b s s' x g g' in
          let c : count_by o.says ≡ count_by o'.says =
          omega (arith, before, as_many a1 b1 m m' x1 y.after z.after, y.passes.shifted, z.passes.shifted) in
          let piece : take (count_by o'.says) o'.left ≡ take (count_by o.says) (drop (length a - s.count) b1) =
          z.passes.piece ∙ ap₂ (λ (n r : ℕ). take n (drop r b1)) (sym c) (sym before) in
          record {
            taken = j.taken;
            answered = record {
              says = j.says c;
              released =
                  subst (λ (l : List ℕ). Same l (take (count_by o'.says) o'.left)) (sym y.passes.piece)
                  (subst (λ (l : List ℕ). Same (take (count_by o.says) (drop (length a - s.count) a1)) l) (sym piece)
                  (take_events _ _ (count_by o.says) _ _ (drop_events _ _ (length a - s.count) a1 b1 x1)));
            };
            after = y.after;
            after' = z.after;
          }

      all_pairs : (a b : List ℕ) (s s' : Enforcer) (os os' : List Offer) (e e' : Enforcer) → Same a b → AfterA a s → AfterB b s'
          → Pairs (SameOffered t h h') os os' → Offers t h s os e → Offers t h' s' os' e' → Corresponds (automaton_of t h) (automaton_of t h') os os'
      all_pairs a b s s' os os' e e' x g g' no_more done done =
          record { answers = no_more; accepted = no_events _ _; released = no_events _ _; counts = refl }
      all_pairs a b s s' os os' e e' x g g' (both {x = o} {y = o'} {xs = rest} {ys = rest'} offered more) (next {m = m} step steps)
          (next {m = m'} step' steps') =
          let y = one_pair a b s s' o o' m m' x g g' offered step step' in
          let z : Corresponds (automaton_of t h) (automaton_of t h') rest rest' =
          all_pairs (a ++ taken_by o.says o.byte) (b ++ taken_by o'.says o'.byte) m m' rest rest' e e' (join_events _ _ a b _ _ x y.taken)
          y.after y.after' more steps steps' in
          record {
            answers = both y.answered z.answers;
            accepted = join_events _ _ _ _ _ _ y.taken z.accepted;
            released = join_events _ _ _ _ _ _ y.answered.released z.released;
            counts = ap₂ (λ (m n : ℕ). m + n) (ap count_by y.answered.says) z.counts;
          }

-- THE THEOREM of S-2 for lists of offers: under either notion, two enforcers that starts with the same further secrets have handed back
pub alike_offers : (notion : Notion) (t : List ℕ) (h h' : Header) (f : Further) → Alike (automaton_of t h) (automaton_of t h') → h.secret ≡ h'.secret
    → h.k ≡ h'.k
    → (s s' : Enforcer) (os os' : List Offer) (e e' : Enforcer) → Starting t h f notion started s → Starting t h' f notion started s'
    → Pairs (SameOffered t h h') os os' → Offers t h s os e → Offers t h' s' os' e' → Corresponds (automaton_of t h) (automaton_of t h') os os'
alike_offers notion t h h' f like secret k s s' os os' e e' start start' pairs offers offers' =
    let x = started_after notion t h f s start in
    let y = started_after notion t h' f s' start' in
    all_pairs t h h' like notion f secret k x.0 y.0 [] [] s s' os os' e e' (no_events _ _) x.1 y.1 pairs offers offers'

-- a start's answer by the first reason that there is for it, in the order of the refusal table: what is asked of the automaton, how many further secrets,
-- their look-backs, and the verdicts of the empty trace
module _ (p : Automaton) (cs : List Secret) (f : Further) (notion : Notion) (r : StartOutcome) where
  abbrev Opens : Type 0
  Opens = (OpensAsLeak notion p cs × (r ≡ not_started 8)) ⊎ (ForEach cs (λ i c. Tells notion p c [] none) × (r ≡ started))

  abbrev Backs : Type 0
  Backs = (TooLarge f × (r ≡ not_started 14)) ⊎ (Allowed f × Opens)

  abbrev Counts : Type 0
  Counts = ((3 < f.count) × (r ≡ not_started 13)) ⊎ ((f.count ≤ 3) × Backs)

  abbrev Reasons : Type 0 → Type 0
  Reasons So = ((So → ⊥) × (r ≡ not_started 9)) ⊎ (So × Counts)

reasons : (t : List ℕ) (h : Header) (f : Further) (notion : Notion) (r : StartOutcome) (s : Enforcer) → Starting t h f notion r s
    → Reasons (automaton_of t h) (secrets_of h f) f notion r (WellFormed t h)
reasons t h f notion r s (Starting.malformed bad out) = inl (bad, refl)
reasons t h f notion r s (Starting.too_many_secrets so many out) = inr (so, inl (many, refl))
reasons t h f notion r s (Starting.look_back_too_large so few large out) = inr (so, inr (few, inl (large, refl)))
reasons t h f notion r s (Starting.initial_leak so allowed opens out) = inr (so, inr (allowed.few, inr (allowed, inl (opens, refl))))
reasons t h f notion r s (Starting.ready so allowed silent same g) = inr (so, inr (allowed.few, inr (allowed, inr (silent, refl))))

-- two answers are the same where the reason holds of both, or of neither and those behind it agree
first_alike : {P P' Q Q' : Type 0} (r r' n : StartOutcome) → (P × (r ≡ n)) ⊎ Q → (P' × (r' ≡ n)) ⊎ Q' → (P → Q' → ⊥) → (Q → P' → ⊥) → (Q → Q' → r ≡ r') → r ≡ r'
first_alike r r' n (inl x) (inl y) here there rest = x.1 ∙ sym y.1
first_alike r r' n (inl x) (inr y) here there rest = absurd (here x.0 y)
first_alike r r' n (inr x) (inl y) here there rest = absurd (there x y.0)
first_alike r r' n (inr x) (inr y) here there rest = rest x y

-- a verdict of the empty trace is one only
apart : (notion : Notion) (p : Automaton) (secret : Secret) → Tells notion p secret [] none → Tells notion p secret [] (leak 0) → ⊥
apart notion p secret a b =
    let e : none ≡ leak 0 = (exactly notion p secret [] none a (leak 0)).1 (in_words notion p secret [] (leak 0) b) in
    let z : ◌≡◌ {A = ℕ} 0 1 = cc in
    omega arith

module _ (p q : Automaton) (like : Alike p q) (f : Further) (cs : List Secret) (notion : Notion) (r r' : StartOutcome) where
  -- the verdict of the empty trace is the same
  same_empty : (secret : Secret) (v : Steps) → Tells notion p secret [] v ↔ Tells notion q secret [] v
  same_empty secret v = alike_tells p q like [] [] (no_events p q) secret notion v

  opens_alike : Opens p cs f notion r → Opens q cs f notion r' → r ≡ r'
  opens_alike x y =
      first_alike r r' (not_started 8) x y
      (λ l z. apart notion q _ (z.0 l.number l.given) ((same_empty _ (leak 0)).0 l.tells))
      (λ z l. apart notion q _ ((same_empty _ none).0 (z.0 l.number l.given)) l.tells)
      (λ a b. a.1 ∙ sym b.1)

  backs_alike : Backs p cs f notion r → Backs q cs f notion r' → r ≡ r'
  backs_alike x y =
      first_alike r r' (not_started 14) x y (λ l z. allowed_not_large f z.0 l) (λ z l. allowed_not_large f z.0 l) (λ a b. opens_alike a.1 b.1)

  counts_alike : Counts p cs f notion r → Counts q cs f notion r' → r ≡ r'
  counts_alike x y =
      first_alike r r' (not_started 13) x y (λ m z. omega (arith, m, z.0)) (λ z m. omega (arith, m, z.0)) (λ a b. backs_alike a.1 b.1)

-- starts are refused alike: 9 where the headers are automata alike, 13 and 14 by the further secrets, 8 by the verdicts of the empty trace
pub alike_starts : (notion : Notion) (t : List ℕ) (h h' : Header) (f : Further) → Alike (automaton_of t h) (automaton_of t h') → h.secret ≡ h'.secret
    → h.k ≡ h'.k
    → WellFormed t h ↔ WellFormed t h' → (r r' : StartOutcome) (s s' : Enforcer) → Starting t h f notion r s → Starting t h' f notion r' s' → r ≡ r'
alike_starts notion t h h' f like secret k both-formed r r' s s' x y =
    first_alike r r' (not_started 9) (reasons t h f notion r s x)
    (subst (λ (cs : List Secret). Reasons (automaton_of t h') cs f notion r' (WellFormed t h')) (sym (same_own h h' f secret k)) (reasons t h' f notion r' s' y))
    (λ bad z. bad (both-formed.1 z.0)) (λ z bad. bad (both-formed.0 z.0))
    (λ a b. counts_alike _ _ like f (secrets_of h f) notion r r' a.1 b.1)

started_well_formed : (notion : Notion) (t : List ℕ) (h : Header) (f : Further) (s : Enforcer) → Starting t h f notion started s → WellFormed t h
started_well_formed notion t h f s x = (started_after notion t h f s x).0

-- so where no two observable events share a symbol: a start with symbols and one without are answered alike, and what is then accepted and released is
-- the symbols of what is without symbols
module _ (notion : Notion) (t : List ℕ) (h h' : Header) (f : Further) (d : Distinct (automaton_of t h)) (w : WithoutSymbols (automaton_of t h'))
    (same : SameButSymbols (automaton_of t h) (automaton_of t h')) (secret : h.secret ≡ h'.secret) (k : h.k ≡ h'.k) (small : h.observable < 2 ^ 32) where
  pub distinct_starts : WellFormed t h → (r r' : StartOutcome) (s s' : Enforcer) → Starting t h f notion r s → Starting t h' f notion r' s' → r ≡ r'
  distinct_starts so r r' s s' x y =
      let so' = own_well_formed t h h' same w (omega (arith, same.observable)) k so in
      alike_starts notion t h h' f (distinct_alike _ _ d w same) secret k (λ z. so', λ z. so) r r' s s' x y

  follow : (s s' : Enforcer) → Starting t h f notion started s → Starting t h' f notion started s' → OffersFollow t h h' s s'
  follow s s' start start' os os' e e' pairs offers offers' =
      let x = alike_offers notion t h h' f (distinct_alike _ _ d w same) secret k s s' os os' e e' start start' pairs offers offers' in
      (x, (spelled_own _ _ _ _ w same x.accepted).1, (spelled_own _ _ _ _ w same x.released).1)

  -- the one with symbols has started
  pub distinct_offers : (r' : StartOutcome) (s s' : Enforcer) → Starting t h f notion started s → Starting t h' f notion r' s'
      → (r' ≡ started) × OffersFollow t h h' s s'
  distinct_offers r' s s' x y =
      let e = sym (distinct_starts (started_well_formed notion t h f s x) started r' s s' x y) in
      (e, follow s s' x (subst (λ (r : StartOutcome). Starting t h' f notion r s') e y))

  -- the one without symbols has
  pub distinct_offers_back : WellFormed t h → (r : StartOutcome) (s s' : Enforcer) → Starting t h f notion r s → Starting t h' f notion started s'
      → (r ≡ started) × OffersFollow t h h' s s'
  distinct_offers_back so r s s' x y =
      let e = distinct_starts so r started s s' x y in
      (e, follow s s' (subst (λ (r : StartOutcome). Starting t h f notion r s) e x) y)

-- ---- an unobservable event's symbol counts for nothing

module _ (t : List ℕ) (h : Header) (symbols : List ℕ) (g : SameSymbols (automaton_of t h) (automaton_of t (relabelled h symbols))) where
  abbrev other : Header
  other = relabelled h symbols

  well_formed_to : WellFormed t h → WellFormed t other
  well_formed_to so = (same_well_formed t h other g refl).0 so

  starting_to : (f : Further) (notion : Notion) (r : StartOutcome) (s : Enforcer) → Starting t h f notion r s → Starting t other f notion r s
  starting_to f notion r s (Starting.malformed bad out) = Starting.malformed (λ so. bad ((same_well_formed t h other g refl).1 so)) out
  starting_to f notion r s (Starting.too_many_secrets so many out) = Starting.too_many_secrets (well_formed_to so) many out
  starting_to f notion r s (Starting.look_back_too_large so few large out) = Starting.look_back_too_large (well_formed_to so) few large out
  starting_to f notion r s (Starting.initial_leak so allowed l out) =
      Starting.initial_leak (well_formed_to so) allowed
      (record { number = l.number; given = l.given; tells = (same_tells _ _ g [] _ notion (leak 0)).0 l.tells }) out
  starting_to f notion r s (Starting.ready so allowed Each-none same x) =
      Starting.ready (well_formed_to so) allowed (λ i given. (same_tells _ _ g [] _ notion none).0 (Each-none i given)) same
      ((same_grown _ _ g notion (secrets_in h s) [] s).0 x)

  offering_to : (self : Enforcer) (byte : ℕ) (output : List ℕ) (r : OfferOutcome) (after : Enforcer) (left : List ℕ)
      → Offering t h self byte output r after left
      → Offering t other self byte output r after left
  offering_to self byte output r after left (Offering.malformed bad) = Offering.malformed (λ x. bad ((same_well_formed t h other g refl).1 x.0, x.1))
  offering_to self byte output r after left (Offering.output_too_small so li few) = Offering.output_too_small (well_formed_to so) li few
  offering_to self byte output r after left (Offering.not_observable so li wide never) =
      Offering.not_observable (well_formed_to so) li wide (λ o. never ((same_observable t h other g byte).1 o))
  offering_to self byte output r after left (Offering.incompatible so li wide ob nobody) =
      Offering.incompatible (well_formed_to so) li wide ((same_observable t h other g byte).0 ob) (λ notion trace x.
      impossible_agree _ _ _ _ (same_agree _ _ g (trace ++ byte ∷ [])) (nobody notion trace ((same_grown _ _ g notion (secrets_in h self) trace self).1 x)))
  offering_to self byte output r after left (Offering.accepted {r = released-now} so li wide ob same la bal front rest within exact) =
      Offering.accepted (well_formed_to so) li wide ((same_observable t h other g byte).0 ob) same la bal front rest within (λ notion trace x.
      let y = exact notion trace ((same_grown _ _ g notion (secrets_in h self) trace self).1 x) in
      record {
        possible = possible_agree _ _ _ _ (same_agree _ _ g (trace ++ byte ∷ [])) y.possible;
        size = size_agree _ _ _ _ (same_agree _ _ g (trace ++ byte ∷ [])) released-now.size y.size;
        grown = (same_grown _ _ g notion (secrets_in h after) (trace ++ byte ∷ []) after).0 y.grown;
      })

module _ (t : List ℕ) (h h' : Header) (g : SameSymbols (automaton_of t h) (automaton_of t h')) (secret : h.secret ≡ h'.secret) (k : h.k ≡ h'.k) where
  pub same_starting : (f : Further) (notion : Notion) (r : StartOutcome) (s : Enforcer) → Starting t h f notion r s ↔ Starting t h' f notion r s
  same_starting f notion r s = same-header t (λ x. Starting t x f notion r s) (λ h symbols g. starting_to t h symbols g f notion r s) h h' g secret k

  pub same_offering : (self : Enforcer) (byte : ℕ) (output : List ℕ) (r : OfferOutcome) (after : Enforcer) (left : List ℕ)
      → Offering t h self byte output r after left ↔ Offering t h' self byte output r after left
  same_offering self byte output r after left =
      same-header t (λ x. Offering t x self byte output r after left) (λ h symbols g. offering_to t h symbols g self byte output r after left) h h' g secret k
