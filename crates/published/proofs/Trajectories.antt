-- Source document 000's Lemmas 1 and 2: the trajectories of its estimator are those of the execution sequences compatible with the trace. Assumes nothing.
use mathlib.Core.Path.{◌≡◌, refl, ap, ap₂, sym, ◌∙◌, subst}
use mathlib.Core.List.{List, [], ◌∷◌, ◌++◌, append_assoc, append-nil}
use Prim.Native.Nat.{ℕ, zero, suc, ◌+◌, ◌-◌, ◌≤◌, ◌<◌}
use native.Mathlib.Omega.{arith}
use native.Mathlib.Decide.{dec_le, dec_lt}
use lib.ListN.{length, get_or, take, replicate, length-append, length-replicate, get_or-replicate}
use lib.Seq.{take_at, drop_at, take_all, take-append-le, take-length, get_or-take, length-take-le}
use Rattle.automaton.specs.Run.{Automaton, Step, Takes, end_of, Compatible}
use Rattle.automaton.proofs.Runs.{shown_append, takes_join, end_join}
use Rattle.automaton.proofs.Positions.{part_run}
use Rattle.published.specs.Source.{Prefix}
use Rattle.published.specs.Estimators.{Mapping, Shifted, Obs, Initially, mapping_after, estimator_after, Parts, Ends, TrajectoryOf, PartsOf}

one_longer : (μ : List ℕ) (σ : ℕ) → length (μ ++ σ ∷ []) ≡ suc (length μ)
one_longer μ σ = length-append μ (σ ∷ []) ∙ omega arith

-- each trajectory of the estimator has K + 1 states, so that it has one for each i up to K
module _ (p : Automaton) (K : ℕ) where
  abbrev Long : Mapping → Type 0
  Long m = (t : List ℕ) → m t → length t ≡ K + 1

  initial_long : Long (Initially p K)
  initial_long t x = ap length x.is ∙ length-replicate (K + 1) x.state

  shift_long : (m : Mapping) (σ : ℕ) → Long m → Long (Shifted K m (Obs p σ))
  shift_long m σ long t x =
      let before = long x.trajectory x.belongs in
      omega (arith, ap length x.is, length-take-le K x.trajectory (omega arith))

  mapping_long : (m : Mapping) (μ : List ℕ) → Long m → Long (mapping_after p K m μ)
  mapping_long m [] long = long
  mapping_long m (σ ∷ μ) long = mapping_long (Shifted K m (Obs p σ)) μ (shift_long m σ long)

  pub trajectory_length : (μ t : List ℕ) → estimator_after p K μ t → length t ≡ K + 1
  trajectory_length μ = mapping_long (Initially p K) μ initial_long

-- an execution sequence and steps of Obs(σ) from its end
run_on : (p : Automaton) (μ : List ℕ) (σ q₁ q₂ : ℕ) (run : List Step) → Compatible p μ run → end_of p.initial run ≡ q₁ → (x : Obs p σ q₁ q₂)
    → Compatible p (μ ++ σ ∷ []) (run ++ x.s)
run_on p μ σ q₁ q₂ run f e x = record {
  takes = takes_join p p.initial run x.s f.takes (subst (λ (q : ℕ). Takes p q x.s) (sym e) x.takes);
  shown_is = shown_append p run x.s ∙ ap₂ (λ (a b : List ℕ). a ++ b) f.shown_is x.shown_is;
}

end_on : (p : Automaton) (σ q₁ q₂ : ℕ) (run : List Step) → end_of p.initial run ≡ q₁ → (x : Obs p σ q₁ q₂) → end_of p.initial (run ++ x.s) ≡ q₂
end_on p σ q₁ q₂ run e x = end_join p.initial run x.s ∙ ap (λ (q : ℕ). end_of q x.s) e ∙ x.ends

-- and such steps from an execution sequence and a part of it
on_run : (p : Automaton) (μ : List ℕ) (σ : ℕ) (before rest run : List Step) → before ++ rest ≡ run → Compatible p μ before → Compatible p (μ ++ σ ∷ []) run
    → Obs p σ (end_of p.initial before) (end_of p.initial run)
on_run p μ σ before rest run joins f g =
    let x = part_run p (μ ++ σ ∷ []) (length μ) before rest run joins g (ap length f.shown_is) in
    record {
      s = rest;
      takes = x.takes;
      shown_is = x.shown_is ∙ drop_at μ (σ ∷ []) (length μ) refl;
      ends = sym (end_join p.initial before rest) ∙ ap (end_of p.initial) joins;
    }

-- the parts 0 to n, and one more after them
abbrev part_or : (part : ℕ → List Step) (last : List Step) (n j : ℕ) → Dec (j ≤ n) → List Step
part_or part last n j (yes h) = part j
part_or part last n j (no h) = last

part_kept : (part : ℕ → List Step) (last : List Step) (n j : ℕ) (d : Dec (j ≤ n)) → j ≤ n → part_or part last n j d ≡ part j
part_kept part last n j (yes h) low = refl
part_kept part last n j (no h) low = absurd (h low)

part_last : (part : ℕ → List Step) (last : List Step) (n j : ℕ) (d : Dec (j ≤ n)) → n < j → part_or part last n j d ≡ last
part_last part last n j (yes h) high = absurd (omega arith)
part_last part last n j (no h) high = refl

module _ (p : Automaton) (K : ℕ) where
  -- each trajectory of m has an execution sequence of ⟦μ⟧
  abbrev SoundFor : Mapping → List ℕ → Type 0
  SoundFor m μ = (t : List ℕ) → m t → PartsOf p K μ t

  initial_sound : SoundFor (Initially p K) []
  initial_sound t x =
      let a = x.reached in
      record {
        part = λ j. a.run;
        parts = record {
          compatible = λ j h. subst (λ (l : List ℕ). Compatible p l a.run) (sym (take_all j [] (omega arith))) a.compatible;
          begins = λ j h. absurd (omega arith);
        };
        ends = λ i h. ap (λ (l : List ℕ). get_or l i 0) x.is ∙ get_or-replicate (K + 1) i x.state 0 (omega arith) ∙ sym a.ends;
      }

  -- after one more symbol: the execution sequence is continued by steps of Obs(σ)
  module _ (μ t : List ℕ) (σ q : ℕ) (w : PartsOf p K μ t) (x : Obs p σ (get_or t 0 0) q) where
    abbrev run : List Step
    run = w.part (length μ)

    abbrev last : List Step
    last = run ++ x.s

    newest : end_of p.initial run ≡ get_or t 0 0
    newest =
        let e : length μ ≡ length μ - 0 = omega arith in
        ap (λ (n : ℕ). end_of p.initial (w.part n)) e ∙ sym (w.ends 0 (omega arith))

    abbrev part_on : ℕ → List Step
    part_on j = part_or w.part last (length μ) j (dec_le j (length μ))

    kept : (j : ℕ) → j ≤ length μ → part_on j ≡ w.part j
    kept j h = part_kept w.part last (length μ) j (dec_le j (length μ)) h

    added : (j : ℕ) → length μ < j → part_on j ≡ last
    added j h = part_last w.part last (length μ) j (dec_le j (length μ)) h

    run_compatible : Compatible p μ run
    run_compatible = subst (λ (l : List ℕ). Compatible p l run) (take-length μ) (w.parts.compatible (length μ) (omega arith))

    compatible_on : (j : ℕ) → j ≤ length (μ ++ σ ∷ []) → Dec (j ≤ length μ) → Compatible p (take j (μ ++ σ ∷ [])) (part_on j)
    compatible_on j h (yes d) = rw (kept j d, take-append-le j μ (σ ∷ []) d) (w.parts.compatible j d)
    compatible_on j h (no d) =
        rw (added j (omega arith), take_all j (μ ++ σ ∷ []) (omega (arith, one_longer μ σ))) (run_on p μ σ (get_or t 0 0) q run run_compatible newest x)

    begins_on : (j : ℕ) → j < length (μ ++ σ ∷ []) → Dec (j < length μ) → Prefix Step (part_on j) (part_on (suc j))
    begins_on j h (yes d) = rw (kept j (omega arith), kept (suc j) d) (w.parts.begins j d)
    begins_on j h (no d) =
        let e : j ≡ length μ = omega (arith, one_longer μ σ) in
        rw (kept j (omega arith), added (suc j) (omega arith)) (record { rest = x.s; joins = ap (λ (n : ℕ). w.part n ++ x.s) e })

    ends_on : Ends p K (μ ++ σ ∷ []) part_on (q ∷ take K t)
    ends_on zero h = sym (end_on p σ (get_or t 0 0) q run newest x)
        ∙ ap (end_of p.initial) (sym (added (length (μ ++ σ ∷ []) - 0) (omega (arith, one_longer μ σ))))
    ends_on (suc i) h =
        let e : length μ - i ≡ length (μ ++ σ ∷ []) - suc i = omega (arith, one_longer μ σ) in
        get_or-take K t i 0 (omega arith) ∙ w.ends i (omega arith) ∙ ap (end_of p.initial) (sym (kept (length μ - i) (omega arith)) ∙ ap part_on e)

    parts_on : PartsOf p K (μ ++ σ ∷ []) (q ∷ take K t)
    parts_on = record {
      part = part_on;
      parts = record { compatible = λ j h. compatible_on j h (dec_le j (length μ)); begins = λ j h. begins_on j h (dec_lt j (length μ)) };
      ends = ends_on;
    }

  shift_sound : (m : Mapping) (μ : List ℕ) (σ : ℕ) → SoundFor m μ → SoundFor (Shifted K m (Obs p σ)) (μ ++ σ ∷ [])
  shift_sound m μ σ sound t x =
      subst (PartsOf p K (μ ++ σ ∷ [])) (sym x.is) (parts_on μ x.trajectory σ x.newest (sound x.trajectory x.belongs) x.pair)

  mapping_sound : (m : Mapping) (μ₁ μ : List ℕ) → SoundFor m μ₁ → SoundFor (mapping_after p K m μ) (μ₁ ++ μ)
  mapping_sound m μ₁ [] sound = subst (SoundFor m) (sym (append-nil μ₁)) sound
  mapping_sound m μ₁ (σ ∷ μ) sound =
      subst (SoundFor (mapping_after p K (Shifted K m (Obs p σ)) μ)) (append_assoc μ₁ (σ ∷ []) μ)
      (mapping_sound (Shifted K m (Obs p σ)) (μ₁ ++ σ ∷ []) μ (shift_sound m μ₁ σ sound))

  -- Lemma 2, "soundness": for each trajectory there is an execution sequence of ⟦μ⟧ whose parts end in the states of the trajectory
  pub lemma_2 : (μ t : List ℕ) → estimator_after p K μ t → PartsOf p K μ t
  lemma_2 μ = mapping_sound (Initially p K) [] μ initial_sound

  -- each execution sequence of ⟦μ⟧, by its parts, has a trajectory of m
  abbrev CompleteFor : Mapping → List ℕ → Type 0
  CompleteFor m μ = (part : ℕ → List Step) → Parts p μ part → TrajectoryOf p K m μ part

  initial_complete : CompleteFor (Initially p K) []
  initial_complete part x =
      let q = end_of p.initial (part 0) in
      record {
        trajectory = replicate (K + 1) q;
        belongs = record { state = q; reached = record { run = part 0; compatible = x.compatible 0 (omega arith); ends = refl }; is = refl };
        ends = λ i h.
            let e : 0 ≡ 0 - i = omega arith in
            get_or-replicate (K + 1) i q 0 (omega arith) ∙ ap (λ (j : ℕ). end_of p.initial (part j)) e;
      }

  -- after one more symbol: all parts but the last have a trajectory, and the steps after them are in Obs(σ)
  module _ (μ : List ℕ) (σ : ℕ) (part : ℕ → List Step) (x : Parts p (μ ++ σ ∷ []) part) where
    fewer : Parts p μ part
    fewer = record {
      compatible = λ j h. rw (← take-append-le j μ (σ ∷ []) h) (x.compatible j (omega (arith, one_longer μ σ)));
      begins = λ j h. x.begins j (omega (arith, one_longer μ σ));
    }

    last_pair : Obs p σ (end_of p.initial (part (length μ))) (end_of p.initial (part (suc (length μ))))
    last_pair =
        let n = length μ in
        let b = x.begins n (omega (arith, one_longer μ σ)) in
        let over : (l : List ℕ) (j : ℕ) → j ≤ length (μ ++ σ ∷ []) → take j (μ ++ σ ∷ []) ≡ l → Compatible p l (part j) =
        λ l j h e. subst (λ (l' : List ℕ). Compatible p l' (part j)) e (x.compatible j h) in
        on_run p μ σ (part n) b.rest (part (suc n)) b.joins (over μ n (omega (arith, one_longer μ σ)) (take_at μ (σ ∷ []) n refl))
        (over (μ ++ σ ∷ []) (suc n) (omega (arith, one_longer μ σ)) (take_all (suc n) (μ ++ σ ∷ []) (omega (arith, one_longer μ σ))))

    trajectory_on : (m : Mapping) → TrajectoryOf p K m μ part → TrajectoryOf p K (Shifted K m (Obs p σ)) (μ ++ σ ∷ []) part
    trajectory_on m w = record {
      trajectory = q ∷ take K w.trajectory;
      belongs = record {
        trajectory = w.trajectory;
        newest = q;
        belongs = w.belongs;
        pair = subst (λ (r : ℕ). Obs p σ r q) (sym newest_is) last_pair;
        is = refl;
      };
      ends = ends_then;
    }
      where
        q : ℕ
        q = end_of p.initial (part (suc (length μ)))

        newest_is : get_or w.trajectory 0 0 ≡ end_of p.initial (part (length μ))
        newest_is =
            let e : length μ - 0 ≡ length μ = omega arith in
            w.ends 0 (omega arith) ∙ ap (λ (n : ℕ). end_of p.initial (part n)) e

        ends_then : Ends p K (μ ++ σ ∷ []) part (q ∷ take K w.trajectory)
        ends_then zero h =
            let e : suc (length μ) ≡ length (μ ++ σ ∷ []) - 0 = omega (arith, one_longer μ σ) in
            ap (λ (n : ℕ). end_of p.initial (part n)) e
        ends_then (suc i) h =
            let e : length μ - i ≡ length (μ ++ σ ∷ []) - suc i = omega (arith, one_longer μ σ) in
            get_or-take K w.trajectory i 0 (omega arith) ∙ w.ends i (omega arith) ∙ ap (λ (n : ℕ). end_of p.initial (part n)) e

  shift_complete : (m : Mapping) (μ : List ℕ) (σ : ℕ) → CompleteFor m μ → CompleteFor (Shifted K m (Obs p σ)) (μ ++ σ ∷ [])
  shift_complete m μ σ complete part x = trajectory_on μ σ part x m (complete part (fewer μ σ part x))

  mapping_complete : (m : Mapping) (μ₁ μ : List ℕ) → CompleteFor m μ₁ → CompleteFor (mapping_after p K m μ) (μ₁ ++ μ)
  mapping_complete m μ₁ [] complete = subst (CompleteFor m) (sym (append-nil μ₁)) complete
  mapping_complete m μ₁ (σ ∷ μ) complete =
      subst (CompleteFor (mapping_after p K (Shifted K m (Obs p σ)) μ)) (append_assoc μ₁ (σ ∷ []) μ)
      (mapping_complete (Shifted K m (Obs p σ)) (μ₁ ++ σ ∷ []) μ (shift_complete m μ₁ σ complete))

  -- Lemma 1, "completeness": for each execution sequence of ⟦μ⟧ and its parts there is a trajectory of the states in which the parts end
  pub lemma_1 : (μ : List ℕ) (part : ℕ → List Step) → Parts p μ part → TrajectoryOf p K (estimator_after p K μ) μ part
  lemma_1 μ = mapping_complete (Initially p K) [] μ initial_complete
