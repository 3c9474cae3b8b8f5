-- From what was judged to what is answered: from the steps that an estimator remembers to each secret's own K, from four places to the secrets that are
-- given, and from what is asked for to both verdicts or one. Assumes nothing.
use Rattle.std.specs.Prelude.{Err, Ok, Result}
use mathlib.Core.Path.{◌≡◌, refl, sym, ap, ◌∙◌, subst}
use mathlib.Core.Bool.{Bool, true, false}
use mathlib.Core.List.{List, [], ◌∷◌, ◌++◌, map}
use Prim.Native.Nat.{ℕ, zero, suc, ◌≤◌, ◌<◌, ◌-◌, min}
use native.Mathlib.Omega.{arith}
use native.Mathlib.Decide.{dec_lt}
use lib.ListN.{length, get_or, take, length-take, get_or-eq_default}
use lib.Dec.{T}
use lib.Seq.{take-length, get_or-take, length-take-le}
use Rattle.stateset.specs.Set.{Is}
use Rattle.automaton.specs.Run.{Automaton, automaton_of, Possible, Observable, WellFormed}
use Rattle.refusal.specs.Refusals.{number_of}
use Rattle.refusal.specs.declared.Refusal.{Refusal}
use Rattle.automaton.specs.Reaching.{Enters, EstimateSize, SizeWithin}
use Rattle.automaton.specs.declared.Header.{Header}
use Rattle.automaton.proofs.Estimates.{size_some, size_most}
use Rattle.estimates.specs.Estimates.{Estimated, Stepped}
use Rattle.estimates.specs.declared.Estimate.{Estimate}
use Rattle.estimates.proofs.Estimating.{estimated_size}
use Rattle.opacity.specs.declared.Notion.{Notion}
use Rattle.opacity.specs.declared.Notion.TheVariants.{Weak, Strong}
use Rattle.opacity.specs.declared.Verdict.{Verdict}
use Rattle.opacity.specs.declared.Verdict.TheVariants.{NoLeak}
use Rattle.opacity.specs.declared.Verdicts.{Verdicts}
use Rattle.opacity.specs.declared.Secret.{Secret}
use Rattle.opacity.specs.declared.Further.{Further}
use Rattle.verifier.specs.declared.Estimator.{Estimator}
use Rattle.opacity.specs.Verdicts.{Steps, none, leak, steps_of, Tells, Bounded}
use Rattle.opacity.specs.Secrets.{secret_of, own, secrets_of, secret_at, ForEach, look_back_of, cleared_of, Allowed}
use Rattle.verifier.specs.Estimators.{remembered_of, Limits, InLimits, Grown, GrownOn}
use Rattle.verifier.specs.Replies.{FindingsBy, told_of, none_told, no_leaks, steps_by, told_at, numbered, told_each, refused, said, OthersNoLeak, Others}
use Rattle.verifier.specs.Replies.{refused-by, verdicts_by, said_by, OthersBy, chosen, Opening, opened, Accepting, accepted, Moved, TellsBy}
use Rattle.verifier.specs.Replies.{AcceptingBy, turned_back, accepted_by}
use Rattle.estimates.specs.StepsBack.{Found}
use Rattle.estimates.specs.declared.Remembered.{Remembered}
use Rattle.verifier.specs.Inner.{up_to, Asks, ask_for, chosen_answer, WhereAsked, JudgedOf, JudgedAt, JudgedAll, Opened, AcceptingAsked}
use Rattle.verifier.specs.declared.Asked.{Asked}
use Rattle.opacity.proofs.Exactness.{sure_any, clear_any}
use Rattle.opacity.proofs.Numbering.{get_d_map, secret_back, how_many, how_many_most, same_secrets}
use Rattle.verifier.proofs.Growing.{grown_remembers, grown_limits}
use Rattle.verifier.specs.declared.EachSecret.{EachSecret}
use Rattle.verifier.specs.declared.Judgement.{Judgement}
use Rattle.verifier.specs.declared.Reply.{Reply}

-- the states right after the last event
pub grown_entry : (p : Automaton) (K : ℕ) (trace : List ℕ) (s : Estimator) → Grown p K trace s → Is (get_or s.entries 0 0) (Enters p trace)
grown_entry p K trace s g =
    let e : length trace - 0 ≡ length trace = omega arith in
    subst (λ (x : List ℕ). Is (get_or s.entries 0 0) (Enters p x)) (ap (λ (n : ℕ). take n trace) e ∙ take-length trace) (g.entries_are 0 (omega arith))

pub bounded_up : (last K : ℕ) (v : Steps) → last ≤ K → Bounded last v → Bounded K v
bounded_up last K none h b = tt
bounded_up last K (leak l) h b = omega arith

tells_up : (notion : Notion) (p : Automaton) (secret : Secret) (last : ℕ) (trace : List ℕ) (v : Steps) → last ≡ min secret.k (length trace)
    → Tells notion p (secret_of secret.states last) trace v → Tells notion p secret trace v
tells_up notion p secret last trace none e x = λ l h r. clear_any notion p secret.states last secret.k trace _ (x l (omega arith) r)
tells_up notion p secret last trace (leak l) e x = record {
  within = omega (arith, x.within);
  reached = x.reached;
  sure = sure_any notion p secret.states last secret.k trace _ x.sure;
  least = λ i h. clear_any notion p secret.states last secret.k trace _ (x.least i h);
}

-- the verdict of one secret by one notion, of a grown estimator: it remembers as much as the secret's own K asks for
found_tells : (notion : Notion) (p : Automaton) (secret : Secret) (K : ℕ) (trace : List ℕ) (s : Estimator) (v : Verdict) → secret.k ≤ K → Grown p K trace s
    → Found notion p (up_to s.count secret) s.count s.symbols s.entries v → Tells notion p secret trace (steps_of v)
found_tells notion p secret K trace s v low g f =
    let c = g.count_is in
    tells_up notion p secret (min secret.k s.count) trace (steps_of v) (omega arith)
    (f.exact trace (grown_remembers p K trace s g s.count (omega arith)))

pub judged_of : (t : List ℕ) (h : Header) (r q : Remembered) (c d : Secret) (a : Asked) (v : Verdicts) → r ≡ q → c ≡ d → JudgedOf t h r c a v
    → JudgedOf t h q d a v
judged_of t h r q c d a v e f j = subst (λ (x : Remembered). JudgedOf t h x d a v) e (subst (λ (x : Secret). JudgedOf t h r x a v) f j)

-- a notion is asked for, or it is not
pub not_both : (b : Bool) → b ≡ true → b ≡ false → ⊥
not_both b t f = subst T (sym t ∙ f) tt

-- both verdicts of one secret
pub judged_both : (t : List ℕ) (h : Header) (r : Remembered) (c : Secret) (a : Asked) (weak strong : Verdict)
    → WhereAsked Weak a weak (Found Weak (automaton_of t h) (up_to r.count c) r.count r.symbols r.entries weak)
    → WhereAsked Strong a strong (Found Strong (automaton_of t h) (up_to r.count c) r.count r.symbols r.entries strong)
    → JudgedOf t h r c a (record { weak = weak; strong = strong })
judged_both t h r c a weak strong x y Weak = x
judged_both t h r c a weak strong x y Strong = y

pub found_last : {notion : Notion} {p : Automaton} {secret last m n : ℕ} {symbols entries : List ℕ} {v : Verdict} → last ≡ m
    → Found notion p (secret_of secret last) n symbols entries v → Found notion p (secret_of secret m) n symbols entries v
found_last {notion} {p} {secret} {last} {m} {n} {symbols} {entries} {v} e f = subst (λ (x : ℕ). Found notion p (secret_of secret x) n symbols entries v) e f

both : (a : Asked) → Asks Weak a → Asks Strong a → (notion : Notion) → Asks notion a
both a weak strong Weak = weak
both a weak strong Strong = strong

-- the verdicts of four places make those of all
pub judged_four : (t : List ℕ) (h : Header) (s : Estimator) (a : Asked) (v w x y : Verdicts) → s.further.count ≤ 3 → JudgedAt t h s a 0 v
    → JudgedAt t h s a 1 w
    → JudgedAt t h s a 2 x → JudgedAt t h s a 3 y → JudgedAll t h s a (record { own = v; first = w; second = x; third = y })
judged_four t h s a v w x y few j k l m zero = j
judged_four t h s a v w x y few j k l m (suc zero) = k
judged_four t h s a v w x y few j k l m (suc (suc zero)) = l
judged_four t h s a v w x y few j k l m (suc (suc (suc zero))) = m
judged_four t h s a v w x y few j k l m (suc (suc (suc (suc i)))) =
    record { given = λ g. absurd (omega (arith, how_many_most h s.further)); other = λ o. refl }

-- with none further the own one alone is judged
pub judged_alone : (t : List ℕ) (h : Header) (s : Estimator) (a : Asked) (v : Verdicts) → s.further.count ≡ 0 → JudgedOf t h (remembered_of s) (own h) a v
    → JudgedAll t h s a (record { own = v; first = no_leaks; second = no_leaks; third = no_leaks })
judged_alone t h s a v alone j =
    judged_four t h s a v no_leaks no_leaks no_leaks (omega arith) (record { given = λ g. j; other = λ o. absurd (omega arith) }) (not_given 1 (omega arith))
    (not_given 2 (omega arith))
    (not_given 3 (omega arith))
  where
    not_given : (i : ℕ) → 0 < i → JudgedAt t h s a i no_leaks
    not_given i h' = record { given = λ g. absurd (omega (arith, how_many_most h s.further)); other = λ o. refl }

-- what is told of a secret that is given is the verdict of its place
at_place : (notion : Notion) (vs : List Verdicts) (i : ℕ) → steps_by notion (get_or (map told_of vs) i none_told) ≡ steps_of (chosen notion (get_or vs i no_leaks))
at_place notion vs i = ap (steps_by notion) (get_d_map told_of vs i no_leaks none_told refl) ∙ by notion (get_or vs i no_leaks)
  where
    by : (notion : Notion) (v : Verdicts) → steps_by notion (told_of v) ≡ steps_of (chosen notion v)
    by Weak v = refl
    by Strong v = refl

pub told_place : (h : Header) (f : Further) (v : EachSecret Verdicts) (notion : Notion) (i : ℕ) → i < length (secrets_of h f)
    → told_at notion (told_each f v) i ≡ steps_of (chosen notion (get_or (numbered v) i no_leaks))
told_place h f v notion i g =
    ap (steps_by notion) (get_or-take (suc f.count) (map told_of (numbered v)) i none_told (omega (arith, how_many_most h f))) ∙ at_place notion (numbered v) i

-- with those of the other places none, they are the same at every number
pub told_others : (f : Further) (v : EachSecret Verdicts) → OthersNoLeak f v → (i : ℕ) → get_or (told_each f v) i none_told ≡ get_or (map told_of (numbered v)) i none_told
told_others f v others i = go (dec_lt i (suc f.count))
  where
    go : Dec (i < suc f.count) → get_or (told_each f v) i none_told ≡ get_or (map told_of (numbered v)) i none_told
    go (yes h) = get_or-take (suc f.count) (map told_of (numbered v)) i none_told h
    go (no h) =
        let long : length (told_each f v) ≤ i = omega (arith, length-take (suc f.count) (map told_of (numbered v))) in
        get_or-eq_default (told_each f v) none_told long
        ∙ sym (get_d_map told_of (numbered v) i no_leaks none_told refl ∙ ap told_of (others i (omega arith)))

pub as_many : (h : Header) (f : Further) (v : EachSecret Verdicts) → f.count ≤ 3 → length (told_each f v) ≡ length (secrets_of h f)
as_many h f v few = length-take-le (suc f.count) (map told_of (numbered v)) (omega arith) ∙ sym (how_many h f few)

others_no_leak : (t : List ℕ) (h : Header) (s : Estimator) (a : Asked) (v : EachSecret Verdicts) → JudgedAll t h s a v → OthersNoLeak s.further v
others_no_leak t h s a v j i more = (j i).other (omega (arith, how_many_most h s.further))

-- the verdicts of a grown estimator, where both notions are asked for
pub judged_tells : (t : List ℕ) (h : Header) (trace : List ℕ) (s : Estimator) (a : Asked) (v : EachSecret Verdicts) → Asks Weak a → Asks Strong a
    → GrownOn t h trace s
    → JudgedAll t h s a v → (notion : Notion) → ForEach (secrets_of h s.further)
    (λ i c. Tells notion (automaton_of t h) c trace (told_at notion (told_each s.further v) i))
judged_tells t h trace s a v weak strong g j notion i given =
    subst (Tells notion (automaton_of t h) (secret_at (secrets_of h s.further) i) trace)
    (sym (told_place h s.further v notion i given))
    (found_tells notion _ _ _ trace s _ (secret_back h s.further i given) g (((j i).given given notion).found (both a weak strong notion)))

-- the opening of an estimator with no symbol, from the estimate that was worked out and what was judged
pub opened_of : (t : List ℕ) (h : Header) (s : Estimator) (a : Asked) (j : Judgement Verdicts) (from : ℕ) (silent : List ℕ) (e : Estimate) → GrownOn t h [] s
    → Estimated (automaton_of t h) from (get_or s.entries 0 0) silent e → JudgedAll t h s a j.verdicts × (j.size ≡ e.size) → Opened t h s a j
opened_of t h s a j from silent e g estimate judged =
    let p = automaton_of t h in
    record {
      judged = judged.0;
      size = subst (EstimateSize p []) (sym judged.1) (estimated_size p from _ silent e [] estimate (grown_entry p (look_back_of h s.further) [] s g));
    }

-- a fresh estimator's answer: the secrets are those that were given
pub opening_of : (t : List ℕ) (h : Header) (f : Further) (s : Estimator) (a : Asked) (j : Judgement Verdicts) → WellFormed t h → Allowed f → Asks Weak a → Asks Strong a
    → s.further ≡ cleared_of f → GrownOn t h [] s → Opened t h s a j → Opening t h f (said f (Ok j)) s × Others f (Ok j)
opening_of t h f s a j so allowed weak strong same g o =
    let p = automaton_of t h in
    let secrets : secrets_of h s.further ≡ secrets_of h f = ap (secrets_of h) same ∙ same_secrets h f in
    let count : s.further.count ≡ f.count = ap (λ (x : Further). x.count) same in
    let tells = judged_tells t h [] s a j.verdicts weak strong g o.judged in (
      opened so allowed same (grown_limits p _ [] s g so.symbols_small) (as_many h f j.verdicts allowed.few)
          (record { some = size_some p [] _ g.possible o.size; most = size_most p [] _ so.start o.size })
          (record {
            possible = g.possible;
            tells = λ notion.
                subst (λ (cs : List Secret). ForEach cs (λ i c. Tells notion p c [] (told_at notion (told_each f j.verdicts) i))) secrets
                (λ i given. subst (λ (n : ℕ). Tells notion p (secret_at (secrets_of h s.further) i) []
                (told_at notion (take (suc n) (map told_of (numbered j.verdicts))) i)) count (tells notion i given));
            size = o.size;
            grown = g;
          }),
      λ i more. others_no_leak t h s a j.verdicts o.judged i (omega (arith, count)),
    )

-- a fresh estimator that is refused
pub refused_opening : (t : List ℕ) (h : Header) (f : Further) (refusal : Refusal) (r : Reply Verdicts) → r.answer ≡ Err refusal
    → Opening t h f (refused (number_of refusal)) r.estimator → Opening t h f (said f r.answer) r.estimator × Others f r.answer
refused_opening t h f refusal r e x = rw e (x, tt)

-- the limits with the largest K, of an estimator with the same further secrets
pub limits_as : (h : Header) (self s : Estimator) (k : ℕ) → k ≡ look_back_of h self.further → s.further ≡ self.further → Limits k s → InLimits h s
limits_as h self s k e same li = subst (λ (f : Further). Limits (look_back_of h f) s) (sym same) (subst (λ (n : ℕ). Limits n s) e li)

-- an accepted symbol, from the estimate after it and the estimator with it pushed
pub moved_by : (t : List ℕ) (h : Header) (self : Estimator) (symbol n from k : ℕ) (silent : List ℕ) (e : Estimate) (s : Estimator) → WellFormed t h
    → InLimits h self
    → Observable h symbol → Stepped (automaton_of t h) from (get_or self.entries 0 0) symbol silent e → n ≡ e.size → k ≡ look_back_of h self.further
    → s.further ≡ self.further → Limits k s
    → ((trace : List ℕ) → Grown (automaton_of t h) k trace self → Is e.entry (Enters (automaton_of t h) (trace ++ symbol ∷ []))
    → Possible (automaton_of t h) (trace ++ symbol ∷ []) → Grown (automaton_of t h) k (trace ++ symbol ∷ []) s) → Moved t h self symbol n s
moved_by t h self symbol n from k silent e s so li ob x is largest same after push =
    let p = automaton_of t h in
    let K = look_back_of h self.further in
    record {
      well_formed = so;
      limits = li;
      observable = ob;
      same = same;
      limits_after = limits_as h self s k largest same after;
      size_within = subst SizeWithin (sym is) x.size_within;
      grown = λ trace g.
          let E = grown_entry p K trace self g in
          subst (λ (f : Further). Grown p (look_back_of h f) (trace ++ symbol ∷ []) s) (sym same)
          (subst (λ (n : ℕ). Grown p n (trace ++ symbol ∷ []) s) largest
          (push trace (subst (λ (n : ℕ). Grown p n trace self) (sym largest) g) (x.enters trace E) (x.possible trace E)));
      size = λ trace g.
          subst (EstimateSize p (trace ++ symbol ∷ [])) (sym is)
          (estimated_size p from _ silent e (trace ++ symbol ∷ []) x.estimated (x.enters trace (grown_entry p K trace self g)));
    }

-- the verdict of one secret that was found for an estimator, as that of the symbol that led to it
found_by : (notion : Notion) (t : List ℕ) (h : Header) (self : Estimator) (symbol n : ℕ) (s : Estimator) (c : Secret) (v : Verdict)
    → c.k ≤ look_back_of h s.further
    → Moved t h self symbol n s → Found notion (automaton_of t h) (up_to s.count c) s.count s.symbols s.entries v
    → TellsBy notion t h self symbol c (steps_of v)
found_by notion t h self symbol n s c v low m f =
    record {
      bounded = bounded_up _ _ (steps_of v) (omega arith) f.bounded;
      tells = λ trace g. found_tells notion _ _ _ (trace ++ symbol ∷ []) s v low (m.grown trace g) f;
    }

given_by : {notion : Notion} {a : Asked} {v : Verdict} {P Q : Type 0} → (P → Q) → WhereAsked notion a v P → WhereAsked notion a v Q
given_by f g = record { found = λ asks. f (g.found asks); silent = g.silent }

-- the verdicts that were found for an estimator, as those of the symbol that led to it
pub judged_by : (a : Asked) (t : List ℕ) (h : Header) (self : Estimator) (symbol : ℕ) (j : Judgement Verdicts) (s : Estimator) → Moved t h self symbol j.size s
    → JudgedAll t h s a j.verdicts → AcceptingAsked a t h self symbol (Ok j) s
judged_by a t h self symbol j s m all = (
  m,
  subst (λ (f : Further). OthersNoLeak f j.verdicts) m.same (others_no_leak t h s a j.verdicts all),
  λ notion.
      subst (λ (f : Further). ForEach (secrets_of h f) (λ i c.
      WhereAsked notion a (chosen notion (get_or (numbered j.verdicts) i no_leaks))
      (TellsBy notion t h self symbol c (steps_of (chosen notion (get_or (numbered j.verdicts) i no_leaks)))))) m.same
      (λ i given. given_by (found_by notion t h self symbol _ s _ _ (secret_back h s.further i given) m) ((all i).given given notion)),
)

-- a refusal
pub refused_asked : (a : Asked) (t : List ℕ) (h : Header) (self : Estimator) (symbol : ℕ) (refusal : Refusal) (r : Reply Verdicts) → r.estimator ≡ self
    → r.answer ≡ Err refusal
    → Accepting t h self symbol (refused (number_of refusal)) self → AcceptingAsked a t h self symbol r.answer r.estimator
refused_asked a t h self symbol refusal r e f x = rw (e, f) x

-- both notions make both verdicts
pub asked_both : (t : List ℕ) (h : Header) (self : Estimator) (symbol : ℕ) (a : Asked) (r : Result (Judgement Verdicts) Refusal) (s : Estimator) → Asks Weak a → Asks Strong a
    → AcceptingAsked a t h self symbol r s → Accepting t h self symbol (said self.further r) s × Others self.further r
asked_both t h self symbol a (Err n) s weak strong x = (x, tt)
asked_both t h self symbol a (Ok j) s weak strong x = (
  accepted m.well_formed m.limits m.observable m.same m.limits_after (as_many h self.further j.verdicts m.limits.allowed.few)
      (λ notion i given. subst (Bounded (secret_at (secrets_of h self.further) i).k) (sym (place notion i given)) (by notion i given).bounded)
      m.size_within
      (λ trace g.
      let n = m.grown trace g in
      record {
        possible = n.possible;
        tells = λ notion i given.
            subst (Tells notion (automaton_of t h) (secret_at (secrets_of h self.further) i) (trace ++ symbol ∷ [])) (sym (place notion i given))
            ((by notion i given).tells trace g);
        size = m.size trace g;
        grown = n;
      }),
  x.1,
)
  where
    m : Moved t h self symbol j.size s
    m = x.0

    place : (notion : Notion) (i : ℕ) → i < length (secrets_of h self.further) → told_at notion (told_each self.further j.verdicts) i
        ≡ steps_of (chosen notion (get_or (numbered j.verdicts) i no_leaks))
    place notion i given = told_place h self.further j.verdicts notion i given

    by : (notion : Notion) → ForEach (secrets_of h self.further)
        (λ i c. TellsBy notion t h self symbol c (steps_of (chosen notion (get_or (numbered j.verdicts) i no_leaks))))
    by notion i given = (x.2 notion i given).found (both a weak strong notion)

-- a place that is not given says nothing by either notion
nothing : (notion : Notion) → chosen notion no_leaks ≡ NoLeak
nothing Weak = refl
nothing Strong = refl

-- one notion makes its verdict
asks_one : (notion : Notion) → Asks notion (ask_for notion)
asks_one Weak = refl
asks_one Strong = refl

pub asked_one : (notion : Notion) (t : List ℕ) (h : Header) (self : Estimator) (symbol : ℕ) (a : Asked) (r : Result (Judgement Verdicts) Refusal) (s : Estimator) → a ≡ ask_for notion
    → AcceptingAsked a t h self symbol r s
    → AcceptingBy notion t h self symbol (said_by self.further (chosen_answer notion r)) s × OthersBy self.further (chosen_answer notion r)
asked_one notion t h self symbol a (Err n) s one x = (turned_back x, tt)
asked_one notion t h self symbol a (Ok j) s one x = (
  accepted_by x.0 (length-take-le (suc self.further.count) (map (λ v. steps_of (chosen notion v)) (numbered j.verdicts)) (omega (arith, few))
      ∙ sym (how_many h self.further few))
      (λ i given.
      subst (TellsBy notion t h self symbol (secret_at (secrets_of h self.further) i))
      (sym (get_or-take (suc self.further.count) (map (λ v. steps_of (chosen notion v)) (numbered j.verdicts)) i none
      (omega (arith, how_many_most h self.further)) ∙ get_d_map (λ v. steps_of (chosen notion v)) (numbered j.verdicts) i no_leaks none
      (ap steps_of (nothing notion))))
      ((x.2 notion i given).found (subst (Asks notion) (sym one) (asks_one notion)))),
  λ i more. get_d_map (chosen notion) (numbered j.verdicts) i no_leaks NoLeak (nothing notion) ∙ ap (chosen notion) (x.1 i more) ∙ nothing notion,
)
  where
    few : self.further.count ≤ 3
    few = x.0.limits.allowed.few

-- and the other way round
pub refused_of : {notion : Notion} {t : List ℕ} {h : Header} {self : Estimator} {symbol n : ℕ} {s : Estimator}
    → AcceptingBy notion t h self symbol (refused-by n) s
    → Accepting t h self symbol (refused n) s
refused_of (turned_back x) = x

pub accepted-of : {notion : Notion} {t : List ℕ} {h : Header} {self : Estimator} {symbol : ℕ} {j : FindingsBy} {s : Estimator}
    → AcceptingBy notion t h self symbol (verdicts_by j) s
    → Moved t h self symbol j.size s × ForEach (secrets_of h self.further) (λ i c. TellsBy notion t h self symbol c (get_or j.each i none))
accepted-of (accepted_by m as_many each) = (m, each)
