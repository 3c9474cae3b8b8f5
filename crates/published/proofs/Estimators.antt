-- Source document 000's Propositions 3 and 4: each m(i) of its estimator is our delayed estimate, and the verdict that it takes from them is 01's, so that it
-- is sound and complete. Assumes nothing.
use mathlib.Core.Path.{◌≡◌, refl, ap, ap₂, sym, ◌∙◌, subst}
use mathlib.Core.List.{List, [], ◌∷◌, ◌++◌, append_assoc, append-nil}
use mathlib.Core.Logic.{◌↔◌}
use Prim.Native.Nat.{ℕ, zero, suc, ◌+◌, ◌-◌, ◌≤◌, ◌<◌, min}
use native.Mathlib.Omega.{arith}
use native.Mathlib.Decide.{dec_le, ℕ_discrete}
use lib.ListN.{length, take, length-append}
use lib.Seq.{take-length, length-take-le}
use Rattle.stateset.specs.Set.{Counts}
use Rattle.stateset.proofs.Counting.{counts_as}
use Rattle.automaton.specs.declared.Header.{Header}
use Rattle.automaton.specs.Run.{Automaton, automaton_of, Step, shows, shown, Compatible, Position, count, state_at}
use Rattle.automaton.specs.Notion.{SureAt}
use Rattle.automaton.specs.Reaching.{Arrives, EstimateSize, DelayedEstimate}
use Rattle.automaton.proofs.Estimates.{delayed_arrives, arrives_delayed}
use Rattle.automaton.proofs.Positions.{part_run, estimate_sure, sure_estimate}
use Rattle.opacity.specs.declared.Secret.{Secret}
use Rattle.opacity.specs.declared.Notion.TheVariants.{Weak}
use Rattle.opacity.specs.Verdicts.{Steps, none, leak, LeakAt, Tells, IsVerdict, Exactly}
use Rattle.opacity.specs.declared.Further.{Further}
use Rattle.opacity.specs.Secrets.{secrets_of, secret_at}
use Rattle.verifier.specs.Replies.{told_at, Said}
use Rattle.opacity.proofs.Exactness.{exactly}
use Rattle.published.specs.Source.{Prefix, Trace, RightVerdict, SaysAfter}
use Rattle.published.specs.Estimators.{EstimateAt, estimator_after, Parts, StillAt, Within, Gamma, SaysGamma}
use Rattle.published.proofs.SourceLaws.{take_prefix, PositionAt, position_at, still_at, published}
use Rattle.opacity.proofs.EveryVerdict.{every_verdict}
use Rattle.published.proofs.SoundVerdicts.{right_verdict, definition_6}
use Rattle.published.proofs.Trajectories.{trajectory_length, lemma_1, lemma_2}

prefix_cons : (s s' : Step) (b b' : List Step) → s ≡ s' → Prefix Step b b' → Prefix Step (s ∷ b) (s' ∷ b')
prefix_cons s s' b b' e x = record { rest = x.rest; joins = ap₂ (λ (y : Step) (l : List Step). y ∷ l) e x.joins }

-- of two prefixes of a run the one that shows fewer symbols is a prefix of the other
shorter_prefix : (p : Automaton) (b a b' a' run : List Step) → b ++ a ≡ run → b' ++ a' ≡ run → length (shown p b) < length (shown p b') → Prefix Step b b'
shorter_prefix p [] a b' a' run e e' less = record { rest = b'; joins = refl }
shorter_prefix p (s ∷ b) a [] a' run e e' less = absurd (omega arith)
shorter_prefix p (s ∷ b) a (s' ∷ b') a' run e e' less =
    let both : s ∷ (b ++ a) ≡ s' ∷ (b' ++ a') = e ∙ sym e' in
    let first : s ≡ s' = cc in
    let others : b ++ a ≡ b' ++ a' = cc in
    let n = length-append (shows p s.event) (shown p b) in
    let n' = length-append (shows p s'.event) (shown p b') in
    let same : length (shows p s.event) ≡ length (shows p s'.event) = ap (λ (x : Step). length (shows p x.event)) first in
    prefix_cons s s' b b' first (shorter_prefix p b a b' a' (b' ++ a') others refl (omega arith))

-- the parts of a compatible run, one of which ends at a given position
module _ (p : Automaton) (μ : List ℕ) (run : List Step) (f : Compatible p μ run) (m : Position run) where
  -- parts are asked for at every number: past |μ| it is the position at |μ|
  some_position : (j : ℕ) → PositionAt p run (min j (length μ))
  some_position j = position_at p μ run f (min j (length μ)) (omega arith)

  abbrev position_or : (j : ℕ) → Dec (j ≡ count p m) → Position run
  position_or j (yes e) = m
  position_or j (no e) = (some_position j).position

  abbrev position_of : ℕ → Position run
  position_of j = position_or j (ℕ_discrete j (count p m))

  position_count : (j : ℕ) → j ≤ length μ → (d : Dec (j ≡ count p m)) → count p (position_or j d) ≡ j
  position_count j h (yes e) = sym e
  position_count j h (no e) = (some_position j).here ∙ omega arith

  position_same : (j : ℕ) → j ≡ count p m → (d : Dec (j ≡ count p m)) → state_at p (position_or j d) ≡ state_at p m
  position_same j here (yes e) = refl
  position_same j here (no e) = absurd (e here)

  parted : Parts p μ (λ j. (position_of j).before)
  parted = record {
    compatible = λ j h.
        let n = position_count j h (ℕ_discrete j (count p m)) in
        (part_run p μ j (position_of j).before (position_of j).after run (position_of j).splits f n).front;
    begins = λ j h.
        let n = position_count j (omega arith) (ℕ_discrete j (count p m)) in
        let n' = position_count (suc j) h (ℕ_discrete (suc j) (count p m)) in
        shorter_prefix p (position_of j).before (position_of j).after (position_of (suc j)).before (position_of (suc j)).after run (position_of j).splits
        (position_of (suc j)).splits
        (omega arith);
  }

-- each part is a prefix of the last
part_begins : (p : Automaton) (μ : List ℕ) (part : ℕ → List Step) → Parts p μ part → (d j : ℕ) → j + d ≡ length μ → Prefix Step (part j) (part (length μ))
part_begins p μ part x zero j e =
    let here : j ≡ length μ = omega arith in
    record { rest = []; joins = append-nil (part j) ∙ ap part here }
part_begins p μ part x (suc d) j e =
    let one = x.begins j (omega arith) in
    let rest = part_begins p μ part x d (suc j) (omega arith) in
    record {
      rest = one.rest ++ rest.rest;
      joins = sym (append_assoc (part j) one.rest rest.rest) ∙ ap (λ (l : List Step). l ++ rest.rest) one.joins ∙ rest.joins;
    }

-- the delayed estimate at count j is δ(q_init, ⟦μ'/μ⟧), where μ' is the first j symbols of μ
pub still_delayed : (p : Automaton) (μ : List ℕ) (j q : ℕ) → j ≤ length μ → StillAt p (take j μ) μ q ↔ DelayedEstimate p μ j q
still_delayed p μ j q h = (
  (λ x. record {
    run = x.still.whole;
    compatible = x.still.then;
    position = record { before = x.s'; after = x.still.begins.rest; splits = x.still.begins.joins };
    here = ap length x.still.now.shown_is ∙ length-take-le j μ h;
    is = x.ends;
  }),
  (λ x. record {
    s' = x.position.before;
    still = still_at p μ x.run x.compatible x.position (take j μ) (take_prefix j μ) (x.here ∙ sym (length-take-le j μ h));
    ends = x.is;
  }),
)

module _ (p : Automaton) (K : ℕ) (μ : List ℕ) where
  delayed : (i q : ℕ) → i ≤ K → EstimateAt (estimator_after p K μ) i q → DelayedEstimate p μ (length μ - i) q
  delayed i q h x =
      let w = lemma_2 p K μ x.trajectory x.belongs in
      let b = part_begins p μ w.part w.parts (length μ - (length μ - i)) (length μ - i) (omega arith) in
      record {
        run = w.part (length μ);
        compatible = subst (λ (l : List ℕ). Compatible p l (w.part (length μ))) (take-length μ) (w.parts.compatible (length μ) (omega arith));
        position = record { before = w.part (length μ - i); after = b.rest; splits = b.joins };
        here = ap length (w.parts.compatible (length μ - i) (omega arith)).shown_is ∙ length-take-le (length μ - i) μ (omega arith);
        is = sym (w.ends i h) ∙ x.is;
      }

  estimated : (i q : ℕ) → i ≤ K → DelayedEstimate p μ (length μ - i) q → EstimateAt (estimator_after p K μ) i q
  estimated i q h x =
      let t = lemma_1 p K μ (λ j. (position_of p μ x.run x.compatible x.position j).before) (parted p μ x.run x.compatible x.position) in
      record {
        trajectory = t.trajectory;
        belongs = t.belongs;
        inside = omega (arith, trajectory_length p K μ t.trajectory t.belongs);
        is = t.ends i h ∙ position_same p μ x.run x.compatible x.position (length μ - i) (sym x.here)
            (ℕ_discrete (length μ - i) (count p x.position)) ∙ x.is;
      }

  -- m(i) is our delayed estimate i steps back. Where i is past |μ| both are the states before the first symbol: m_init repeats its state, and |μ| − i is 0
  pub estimator_delayed : (i q : ℕ) → i ≤ K → EstimateAt (estimator_after p K μ) i q ↔ DelayedEstimate p μ (length μ - i) q
  estimator_delayed i q h = (delayed i q h, estimated i q h)

  -- so the number of possible states (02, S-5) is how many m(0) has, the states in which the system can be now
  pub size_current : (n : ℕ) → EstimateSize p μ n ↔ Counts (EstimateAt (estimator_after p K μ) 0) n
  size_current n =
      let e : length μ ≡ length μ - 0 = omega arith in
      let there : (q : ℕ) → Arrives p μ q → EstimateAt (estimator_after p K μ) 0 q =
      λ q x. (estimator_delayed 0 q (omega arith)).1 (subst (λ (j : ℕ). DelayedEstimate p μ j q) e (arrives_delayed p μ q x)) in
      let back : (q : ℕ) → EstimateAt (estimator_after p K μ) 0 q → Arrives p μ q =
      λ q x. delayed_arrives p μ q (subst (λ (j : ℕ). DelayedEstimate p μ j q) (sym e) ((estimator_delayed 0 q (omega arith)).0 x)) in
      (counts_as there back, counts_as back there)

  -- Proposition 3: of m = δ_D(m_init, μ), m(i) = δ(q_init, ⟦μ'/μ⟧), where μ' is the first |μ| − i symbols of μ. There i is at most |μ| and K; here K alone, for
  -- past |μ| μ' is empty. There μ is an observed trace; here it is any list, for where it is not observed neither side has a state
  pub proposition_3 : (i q : ℕ) → i ≤ K → EstimateAt (estimator_after p K μ) i q ↔ StillAt p (take (length μ - i) μ) μ q
  proposition_3 i q h =
      let (there, back) = estimator_delayed i q h in
      let (still, unstill) = still_delayed p μ (length μ - i) q (omega arith) in
      ((λ x. unstill (there x)), (λ x. back (still x)))

-- of a secret, by the estimator with its own K
module _ (p : Automaton) (secret : Secret) (μ : List ℕ) where
  -- m(k) ∈ 2^S exactly where the reader is sure k steps back
  within_sure : (k : ℕ) → k ≤ secret.k → Within (estimator_after p secret.k μ) k secret.states → SureAt p secret.states μ (length μ - k)
  within_sure k h within = estimate_sure p secret.states μ (length μ - k) (λ q x. within q ((estimator_delayed p secret.k μ k q h).1 x))

  sure_within : (k : ℕ) → k ≤ secret.k → SureAt p secret.states μ (length μ - k) → Within (estimator_after p secret.k μ) k secret.states
  sure_within k h sure q x = sure_estimate p secret.states μ (length μ - k) sure q ((estimator_delayed p secret.k μ k q h).0 x)

  -- where k is past |μ| the reader is sure |μ| steps back
  within_all : (k : ℕ) → k ≤ secret.k → length μ ≤ k → Within (estimator_after p secret.k μ) k secret.states
      → SureAt p secret.states μ (length μ - length μ)
  within_all k h far within =
      let e : length μ - k ≡ length μ - length μ = omega arith in
      subst (SureAt p secret.states μ) e (within_sure k h within)

  -- where it is not, it is a leak k steps back
  within_leak : (k : ℕ) → k ≤ secret.k → k ≤ length μ → Within (estimator_after p secret.k μ) k secret.states → LeakAt Weak p secret μ k
  within_leak k h reached within = record { within = h; reached = reached; sure = within_sure k h within }

  none_words : Gamma (estimator_after p secret.k μ) secret none → IsVerdict Weak p secret μ none
  none_words never l x = never l x.within (sure_within l x.within x.sure)

  words_none : IsVerdict Weak p secret μ none → Gamma (estimator_after p secret.k μ) secret none
  words_none never k h within = go (dec_le k (length μ))
    where
      go : Dec (k ≤ length μ) → ⊥
      go (yes reached) = never k (within_leak k h reached within)
      go (no far) = never (length μ) (record { within = omega arith; reached = omega arith; sure = within_all k h (omega arith) within })

  leak_words : (l : ℕ) → Gamma (estimator_after p secret.k μ) secret (leak l) → IsVerdict Weak p secret μ (leak l)
  leak_words l (h, within, least) = (within_leak l h (reached (dec_le l (length μ))) within, λ m less x. least m less (sure_within m x.within x.sure))
    where
      -- past |μ| step |μ| would be a lesser one
      reached : Dec (l ≤ length μ) → l ≤ length μ
      reached (yes d) = d
      reached (no far) = absurd (least (length μ) (omega arith) (sure_within (length μ) (omega arith) (within_all l h (omega arith) within)))

  words_leak : (l : ℕ) → IsVerdict Weak p secret μ (leak l) → Gamma (estimator_after p secret.k μ) secret (leak l)
  words_leak l (x, least) =
      let h = x.within in
      let reached = x.reached in
      (h, sure_within l h x.sure, λ k less within. least k less (within_leak k (omega arith) (omega arith) within))

  -- Γ says what 01's words say
  pub gamma_words : (v : Steps) → Gamma (estimator_after p secret.k μ) secret v ↔ IsVerdict Weak p secret μ v
  gamma_words none = (none_words, words_none)
  gamma_words (leak l) = (leak_words l, words_leak l)

  -- so a verdict that is exactly 01's is Γ's: leak l exactly where l is the least k up to K with m(k) ∈ 2^S, and none exactly where there is none
  pub exactly_gamma : (v : Steps) → Exactly Weak p secret μ v → (w : Steps) → (v ≡ w) ↔ Gamma (estimator_after p secret.k μ) secret w
  exactly_gamma v x w =
      let (there, back) = x w in
      ((λ e. (gamma_words w).1 (there e)), (λ y. back ((gamma_words w).0 y)))

  -- and the one that our verifier promises is
  pub verdict_gamma : (v : Steps) → Tells Weak p secret μ v → (w : Steps) → (v ≡ w) ↔ Gamma (estimator_after p secret.k μ) secret w
  verdict_gamma v tells = exactly_gamma v (exactly Weak p secret μ v tells)

  -- Γ is a function: there is one verdict
  pub one_gamma : (γ : Steps) × ((w : Steps) → (γ ≡ w) ↔ Gamma (estimator_after p secret.k μ) secret w)
  one_gamma = let (v, tells) = every_verdict Weak p secret μ in (v, verdict_gamma v tells)

  -- Proposition 4: the verifier whose verdict after μ is Γ(δ_D(m_init, μ)) "is sound and complete w.r.t. G, P, S and the K-step weak opacity". (The paper
  -- goes from Proposition 3 to the leak sets; here m(k) is read as our delayed estimate, and 01's verdict, which is known to be right, as Γ's)
  pub proposition_4 : Trace p μ → (γ : Steps) → Gamma (estimator_after p secret.k μ) secret γ → RightVerdict Weak p secret μ γ
  proposition_4 x γ gamma = go (every_verdict Weak p secret μ)
    where
      go : (v : Steps) × Tells Weak p secret μ v → RightVerdict Weak p secret μ γ
      go (v, tells) =
          let e : v ≡ γ = (verdict_gamma v tells γ).1 gamma in
          subst (RightVerdict Weak p secret μ) e
          ((right_verdict Weak p secret μ v).0 (published p secret μ x Weak v (exactly Weak p secret μ v tells)))

-- a trace has one right verdict
one_right : (p : Automaton) (secret : Secret) (μ : List ℕ) (v w : Steps) → RightVerdict Weak p secret μ v → RightVerdict Weak p secret μ w → v ≡ w
one_right p secret μ v none x y = x.clear.1 (y.clear.0 refl)
one_right p secret μ v (leak l) x y = (x.leaks l (y.domain l refl)).1 ((y.leaks l (y.domain l refl)).0 refl)

-- our verifier, offered the events of an observed trace one after another, says of each secret by the weak notion what Γ(δ_D(m_init, μ)) is
pub verifier_gamma : (t : List ℕ) (h : Header) (f : Further) (μ : List ℕ) → Trace (automaton_of t h) μ → (r : Said) → SaysAfter t h f μ r → SaysGamma t h f μ r
verifier_gamma t h f μ x r says =
    let p = automaton_of t h in
    let right = definition_6 t h f μ x r says in
    record {
      told = right.told;
      said_is = right.said_is;
      as_many = right.as_many;
      gamma = λ i given.
          let c = secret_at (secrets_of h f) i in
          let (γ, only) = one_gamma p c μ in
          let gamma = (only γ).0 refl in
          let v = told_at Weak right.told.each i in
          let e : γ ≡ v = one_right p c μ γ v (proposition_4 p c μ x γ gamma) (right.each_right Weak i given) in
          subst (Gamma (estimator_after p c.k μ) c) e gamma;
      current = λ K. (size_current p K μ right.told.size).0 right.size_right;
    }
