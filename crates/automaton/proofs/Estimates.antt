-- How many states are possible after a trace. Assumes nothing.
use Prim.Native.Nat.{ℕ, ◌≤◌}
use mathlib.Core.Path.{refl, ap, subst, ◌∙◌}
use mathlib.Core.List.{List, [], append-nil}
use native.Mathlib.Omega.{arith}
use lib.ListN.{length}
use lib.Seq.{take-length}
use Rattle.stateset.specs.Set.{In, Is, Counts}
use Rattle.stateset.proofs.Counting.{counts_as, counts_one, counts_some, counts_below}
use Rattle.automaton.specs.Run.{Automaton, end_of, Possible}
use Rattle.automaton.specs.Reaching.{Arrives, EstimateSize, SizeWithin, RightSize, DelayedEstimate}
use Rattle.automaton.proofs.Runs.{end_small}
use Rattle.automaton.proofs.Positions.{part_run}

module _ (p : Automaton) (trace : List ℕ) where
  -- the possible states are the delayed estimate no step back
  pub delayed_arrives : (q : ℕ) → DelayedEstimate p trace (length trace) q → Arrives p trace q
  delayed_arrives q x =
      let m = x.position in
      let part = part_run p trace (length trace) m.before m.after x.run m.splits x.compatible x.here in
      record { run = m.before; compatible = record { takes = part.front.takes; shown_is = part.front.shown_is ∙ take-length trace }; ends = x.is }

  pub arrives_delayed : (q : ℕ) → Arrives p trace q → DelayedEstimate p trace (length trace) q
  arrives_delayed q x =
      record {
        run = x.run;
        compatible = x.compatible;
        position = record { before = x.run; after = []; splits = append-nil x.run };
        here = ap length x.compatible.shown_is;
        is = x.ends;
      }

  -- the number of the members of the set of these states
  pub set_size : (set n : ℕ) → Is set (Arrives p trace) → Counts (λ q. In q set) n → EstimateSize p trace n
  set_size set n A c = counts_as A.sound A.whole c

  -- 1 to 64
  pub size_some : (n : ℕ) → Possible p trace → EstimateSize p trace n → 1 ≤ n
  size_some n x c = counts_some n (end_of p.initial x.run) (record { run = x.run; compatible = x.compatible; ends = refl }) c

  pub size_most : (n : ℕ) → p.initial ≤ 63 → EstimateSize p trace n → n ≤ 64
  size_most n start c = counts_below n 64 (λ q a. omega (arith, a.ends, end_small p p.initial a.run start a.compatible.takes)) c

-- a number by the definition is the only one
pub right_size : (p : Automaton) (trace : List ℕ) (n : ℕ) → SizeWithin n → EstimateSize p trace n → RightSize p trace n
right_size p trace n within x = record { exactly = λ m. (λ e. subst (EstimateSize p trace) e x, λ y. counts_one n m x y); within = within }
