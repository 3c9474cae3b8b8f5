-- A look back stays inside a set that holds every state in which compatible runs can be from some count on. Assumes nothing.
use mathlib.Core.Path.{◌≡◌, refl, ap, sym, subst}
use mathlib.Core.List.{List, [], ◌∷◌, ◌++◌, append_assoc}
use Prim.Native.Nat.{ℕ, ◌≤◌}
use native.Mathlib.Omega.{arith}
use lib.ListN.{length, take, drop}
use lib.Seq.{length-take-le}
use Rattle.stateset.specs.Set.{In, everything}
use Rattle.stateset.proofs.Bits.{all_in}
use Rattle.automaton.specs.Run.{Automaton, Step, end_of, shown, Compatible}
use Rattle.automaton.specs.Reaching.{Arrives, Through, Leaves}
use Rattle.automaton.proofs.Runs.{shown_count, end_join, end_small}
use Rattle.automaton.proofs.Positions.{anywhere, join_run, part_run}

module _ (p : Automaton) (trace : List ℕ) (states low : ℕ) (all : (j q : ℕ) → low ≤ j → j ≤ length trace → Arrives p (take j trace) q → In q states) where
  -- what follows in a compatible run goes through the states
  follows_inside : (run steps : List Step) → Compatible p trace (run ++ steps) → low ≤ length (shown p run) → Through states steps
  follows_inside run [] f l = tt
  follows_inside run (s ∷ ss) f l =
      let again : (run ++ s ∷ []) ++ ss ≡ run ++ s ∷ ss = append_assoc run (s ∷ []) ss in
      let x = part_run p trace (length (shown p (run ++ s ∷ []))) (run ++ s ∷ []) ss (run ++ s ∷ ss) again f refl in
      let more : low ≤ length (shown p (run ++ s ∷ [])) = omega (arith, shown_count p run (s ∷ [])) in
      let room : length (shown p (run ++ s ∷ [])) ≤ length trace =
      omega (arith, ap length f.shown_is, ap (λ (r : List Step). length (shown p r)) again, shown_count p (run ++ s ∷ []) ss) in (
        subst (λ (q : ℕ). In q states) (end_join p.initial run (s ∷ []))
            (all (length (shown p (run ++ s ∷ []))) (end_of p.initial (run ++ s ∷ [])) more room
            (record { run = run ++ s ∷ []; compatible = x.front; ends = refl })),
        follows_inside (run ++ s ∷ []) ss (subst (Compatible p trace) (sym again) f) more,
      )

  through_both : (a b : ℕ) → ((q : ℕ) → In q states → In q a → In q b) → (ss : List Step) → Through states ss → Through a ss → Through b ss
  through_both a b f [] t u = tt
  through_both a b f (s ∷ ss) t u = (f s.to t.0 u.0, through_both a b f ss t.1 u.1)

  -- so events that can follow a state of the estimate, can follow through the states
  pub leaves_inside : (a b : ℕ) → ((q : ℕ) → In q states → In q a → In q b) → (j q : ℕ) → low ≤ j → j ≤ length trace → Arrives p (take j trace) q
      → Leaves p a (drop j trace) q → Leaves p b (drop j trace) q
  leaves_inside a b f j q l h x y =
      let c = join_run p trace j x.run y.steps x.compatible (rw x.ends y.takes) y.shown_is in
      let n : low ≤ length (shown p x.run) = omega (arith, ap length x.compatible.shown_is, length-take-le j trace h) in
      record {
        start = f q (all j q l h x) y.start;
        steps = y.steps;
        takes = y.takes;
        shown_is = y.shown_is;
        through = through_both a b f y.steps (follows_inside x.run y.steps c n) y.through;
      }

-- and through allowed states is through any
pub leaves_anywhere : (p : Automaton) (a : ℕ) (trace : List ℕ) (j q : ℕ) → p.initial ≤ 63 → Arrives p (take j trace) q → Leaves p a (drop j trace) q
    → Leaves p everything (drop j trace) q
leaves_anywhere p a trace j q start x y =
    let small = end_small p p.initial x.run start x.compatible.takes in
    record {
      start = all_in q (omega (arith, x.ends));
      steps = y.steps;
      takes = y.takes;
      shown_is = y.shown_is;
      through =
          anywhere p q y.steps y.takes;
    }
