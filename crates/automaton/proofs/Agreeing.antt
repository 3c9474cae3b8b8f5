-- What agrees where the compatible runs do: refusal 7, the states that runs enter, both notions. Each law goes both ways, by `agree-back`. Assumes nothing.
use mathlib.Core.Path.{refl, sym, subst, ◌∙◌}
use mathlib.Core.List.{List, [], ◌∷◌, append-nil}
use mathlib.Core.Logic.{inl, inr}
use Prim.Native.Nat.{ℕ}
use native.Mathlib.Omega.{arith}
use lib.ListN.{length-append}
use Rattle.stateset.specs.Set.{In}
use Rattle.stateset.proofs.Counting.{counts_as}
use Rattle.automaton.specs.Run.{Automaton, Step, shows, Possible, Impossible}
use Rattle.automaton.specs.Reaching.{Landed, Enters, Arrives, EstimateSize}
use Rattle.automaton.specs.Notion.{SureAt, SureFrom, ClearAt, ClearFrom}
use Rattle.automaton.specs.Symbols.{Agree}

pub agree_back : (p q : Automaton) (a b : List ℕ) → Agree p q a b → Agree q p b a
agree_back p q a b g =
    record { to = g.from; from = g.to; counts = λ run m. sym (g.counts run m); states = λ run m. sym (g.states run m); sizes = sym g.sizes }

module _ (p q : Automaton) (a b : List ℕ) (g : Agree p q a b) where
  pub possible_agree : Possible p a → Possible q b
  possible_agree x = record { run = x.run; compatible = g.to x.run x.compatible }

  pub impossible_agree : Impossible p a → Impossible q b
  impossible_agree x run f = x run (g.from run f)

  -- the states that runs can be in right after the last event
  landed_agree : (run : List Step) → Landed p run → Landed q run
  landed_agree run (inl none) = inl none
  landed_agree run (inr l) =
      let e = l.last.event in
      let same = g.counts (l.last ∷ []) (record { before = l.last ∷ []; after = []; splits = refl }) in
      inr (record {
        front = l.front;
        last = l.last;
        joins = l.joins;
        shown_one = omega (arith, same, length-append (shows p e) [], length-append (shows q e) [], l.shown_one);
      })

  pub enters_agree : (r : ℕ) → Enters p a r → Enters q b r
  enters_agree r x =
      record {
        run = x.run;
        compatible = g.to x.run x.compatible;
        landed = landed_agree x.run x.landed;
        ends = sym (g.states x.run (record { before = x.run; after = []; splits = append-nil x.run })) ∙ x.ends;
      }

  -- and with the unobservable transitions after it
  pub arrives_agree : (r : ℕ) → Arrives p a r → Arrives q b r
  arrives_agree r x =
      record {
        run = x.run;
        compatible = g.to x.run x.compatible;
        ends = sym (g.states x.run (record { before = x.run; after = []; splits = append-nil x.run })) ∙ x.ends;
      }

  module _ (secret : ℕ) (j : ℕ) where
    pub sure_at_agree : SureAt p secret a j → SureAt q secret b j
    sure_at_agree x run f m c = subst (λ (s : ℕ). In s secret) (g.states run m) (x run (g.from run f) m (g.counts run m ∙ c))

    pub sure_from_agree : SureFrom p secret a j → SureFrom q secret b j
    sure_from_agree x run f =
        let c = x run (g.from run f) in
        record {
          position = c.position;
          late = omega (arith, c.late, g.counts run c.position);
          inside = subst (λ (s : ℕ). In s secret) (g.states run c.position) c.inside;
        }

    pub clear_at_agree : ClearAt p secret a j → ClearAt q secret b j
    clear_at_agree x =
        record {
          run = x.run;
          compatible = g.to x.run x.compatible;
          position = x.position;
          here = sym (g.counts x.run x.position) ∙ x.here;
          outside = λ i. x.outside (subst (λ (s : ℕ). In s secret) (sym (g.states x.run x.position)) i);
        }

    pub clear_from_agree : ClearFrom p secret a j → ClearFrom q secret b j
    clear_from_agree x =
        record {
          run = x.run;
          compatible = g.to x.run x.compatible;
          outside = λ m late i. x.outside m (omega (arith, g.counts x.run m)) (subst (λ (s : ℕ). In s secret) (sym (g.states x.run m)) i);
        }

-- how many states are possible
pub size_agree : (p q : Automaton) (a b : List ℕ) → Agree p q a b → (n : ℕ) → EstimateSize p a n → EstimateSize q b n
size_agree p q a b g n x = counts_as (arrives_agree p q a b g) (arrives_agree q p b a (agree_back p q a b g)) x
