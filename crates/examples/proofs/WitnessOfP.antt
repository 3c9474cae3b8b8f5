-- A run that excuses the system, on 01's P after 1 2 1 1, two symbols back, by both notions; and that there is none after 1 2, one symbol back, where its
-- verdict is leak 1. Assumes nothing.
use mathlib.Core.Path.{◌≡◌, refl}
use mathlib.Core.List.{List, [], ◌∷◌}
use mathlib.Core.Logic.{inr}
use Prim.Native.Nat.{ℕ, ◌^◌}
use native.Mathlib.Omega.{arith}
use lib.Dec.{T}
use Rattle.stateset.specs.Set.{bit, In}
use Rattle.automaton.specs.Run.{Automaton, automaton_of, Transition, Step}
use Rattle.automaton.specs.Reaching.{Enters}
use Rattle.encoding.specs.Transitions.{listed}
use Rattle.encoding.specs.Table.{Holds}
use Rattle.opacity.specs.Secrets.{own}
use Rattle.opacity.specs.Verdicts.{leak}
use Rattle.opacity.specs.declared.Notion.{Notion}
use Rattle.opacity.specs.declared.Notion.TheVariants.{Weak, Strong}
use Rattle.witness.specs.Witnesses.{SomeClear, Excused, WitnessOf}
use Rattle.witness.specs.Traces.{NoWitness}
use Rattle.witness.proofs.Allowing.{allowed_excused}
use Rattle.witness.proofs.Answering.{sure_no_witness}
use Rattle.examples.specs.StarredRows.{P}
use Rattle.examples.proofs.Checks.{checked}
use Rattle.examples.proofs.SearchLaws.{triple}
use Rattle.examples.proofs.TableLaw.{listing}
use Rattle.examples.proofs.NotionChecks.{tells?}

abbrev step : (event to : ℕ) → Step
step event to = record { event = event; to = to }

-- by the unobservable event 0 to state 2, and by the symbol 1 twice to state 3: never in state 1, the secret one
abbrev run : List Step
run = step 0 2 ∷ step 1 3 ∷ step 1 3 ∷ []

module _ (t : List ℕ) (law : Holds (P 2).transitions t) where
  abbrev p : Automaton
  p = automaton_of t (P 2).header

  takes : (q e r : ℕ) → T (listed (triple q e r) (P 2).transitions) → Transition t q e r
  takes q e r = (listing (P 2).transitions t law tt (P 2).header).taken q e r

  -- it starts in state 0, possible right after 1 2
  start : Enters p (1 ∷ 2 ∷ []) 0
  unfolding bit
  start = record {
    run = step 1 1 ∷ step 2 0 ∷ [];
    compatible = record { takes = (takes 0 1 1 tt, (takes 1 2 0 tt, tt)); shown_is = refl };
    landed = inr (record { front = step 1 1 ∷ []; last = step 2 0; joins = refl; shown_one = refl });
    ends = refl;
  }

  outside : In 0 (2 ^ 1) → ◌≡◌ {A = ℕ} 0 1
  unfolding bit
  outside i = i

  clear : SomeClear p (2 ^ 1) 0 run
  clear = record { position = record { before = []; after = run; splits = refl }; first = refl; outside = λ i. absurd (omega (arith, outside i)) }

  excused : (notion : Notion) → Excused notion p (2 ^ 1) 0 run
  unfolding bit
  excused Weak = clear
  excused Strong = allowed_excused p (2 ^ 1) (omega arith) 0 run Strong (record { inside = refl; through = (refl, (refl, (refl, tt))); clear = clear })

  pub p_witness : (notion : Notion) → WitnessOf notion p (2 ^ 1) (1 ∷ 2 ∷ 1 ∷ 1 ∷ []) 2 0 run
  unfolding bit
  p_witness notion = record {
    starts = start;
    takes = (takes 0 0 2 tt, (takes 2 1 3 tt, (takes 3 1 3 tt, tt)));
    shown_is = refl;
    excused = excused notion;
  }

  pub p_none : (notion : Notion) → NoWitness notion p (own (P 2).header) (1 ∷ 2 ∷ []) 1
  unfolding bit
  p_none Weak = (sure_no_witness Weak p (own (P 2).header) (1 ∷ 2 ∷ []) 1 (omega arith)).0
      (checked (tells? (P 2).transitions (P 2).header tt (own (P 2).header) Weak (1 ∷ 2 ∷ []) (leak 1)) tt (record { table = t; holds = law })).sure
  p_none Strong = (sure_no_witness Strong p (own (P 2).header) (1 ∷ 2 ∷ []) 1 (omega arith)).0
      (checked (tells? (P 2).transitions (P 2).header tt (own (P 2).header) Strong (1 ∷ 2 ∷ []) (leak 1)) tt (record { table = t; holds = law })).sure
