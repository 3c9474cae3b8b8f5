-- A search for runs that are compatible with a trace, over states with a flag: whether a position so far was marked.
-- Nothing is proved of the search. `none` tests the sets that it finds and `some` the run that it finds; SearchLaws says what the tests tell. Assumes nothing.
use mathlib.Core.Bool.{Bool, true, false, not, cond, ◌&&◌, ◌||◌, beq}
use mathlib.Core.List.{List, [], ◌∷◌, ◌++◌, reverse}
use Prim.Native.Nat.{ℕ, zero, suc, ◌+◌}
use lib.Dec.{eqb}
use lib.ListN.{length}
use Rattle.automaton.specs.Run.{Step}
use Rattle.encoding.specs.Transitions.{listed}
use Rattle.encoding.specs.declared.ListedTransition.{ListedTransition}
use Rattle.examples.proofs.Booleans.{every, any, implies, same_list}

-- a state that was reached, whether a position before it was marked, and the run to it, last step first
pub record Node : Type 0 where
  pub state : ℕ
  pub flag : Bool
  pub run : List Step

abbrev pub is_node : ℕ → Bool → Node → Bool
is_node q f x = eqb q x.state && beq f x.flag

abbrev pub is_nil : List ℕ → Bool
is_nil [] = true
is_nil (x ∷ l) = false

abbrev pub is_one : ℕ → List ℕ → Bool
is_one a [] = false
is_one a (x ∷ l) = eqb x a && is_nil l

-- `view` is what an event shows; `mark` says of a count and a state whether such a position is marked
module _ (view : ℕ → List ℕ) (mark : ℕ → ℕ → Bool) where
  -- a position of the steps from q, with c events shown before, is marked
  abbrev pub flag_of : ℕ → ℕ → List Step → Bool
  flag_of c q [] = mark c q
  flag_of c q (s ∷ ss) = mark c q || flag_of (c + length (view s.event)) s.to ss

  abbrev pub trace_of : List Step → List ℕ
  trace_of [] = []
  trace_of (s ∷ ss) = view s.event ++ trace_of ss

  abbrev pub silent : ℕ → Bool
  silent e = is_nil (view e)

  abbrev pub showing : ℕ → ℕ → Bool
  showing a e = is_one a (view e)

  module _ (ts : List ListedTransition) where
    -- where the transitions of the kept events lead from a node
    abbrev next_by : (ℕ → Bool) → ℕ → Node → List ListedTransition → List Node
    next_by keep c x [] = []
    next_by keep c x (t ∷ rest) =
        cond (eqb t.from x.state && keep t.event)
        (record { state = t.to; flag = x.flag || mark c x.state; run = record { event = t.event; to = t.to } ∷ x.run } ∷ next_by keep c x rest)
        (next_by keep c x rest)

    abbrev nexts : (ℕ → Bool) → ℕ → List Node → List Node
    nexts keep c [] = []
    nexts keep c (x ∷ xs) = next_by keep c x ts ++ nexts keep c xs

    -- what unobservable transitions reach. The first number only makes the recursion end
    abbrev grow : ℕ → ℕ → List Node → List Node → List Node
    grow zero c found todo = found
    grow (suc n) c found [] = found
    grow (suc n) c found (x ∷ todo) =
        elim (any (is_node x.state x.flag) found) [
          | true ↦ grow n c found todo
          | false ↦ grow n c (x ∷ found) (next_by silent c x ts ++ todo)
        ]

    abbrev explore : ℕ → List Node → List Node
    explore c todo = grow 10000 c [] todo

    abbrev pub first : ℕ → List Node
    first initial = explore 0 (record { state = initial; flag = false; run = [] } ∷ [])

    abbrev pub after : ℕ → ℕ → List Node → List Node
    after a c S = explore (c + 1) (nexts (showing a) c S)

    abbrev last : ℕ → List ℕ → List Node → List Node
    last c [] S = S
    last c (a ∷ rest) S = last (c + 1) rest (after a c S)

    -- the states in which compatible runs end, as far as it finds them
    abbrev states_of : List Node → List ℕ
    states_of [] = []
    states_of (x ∷ xs) = x.state ∷ states_of xs

    abbrev pub ends : ℕ → List ℕ → List ℕ
    ends initial trace = states_of (last 0 trace (first initial))

    -- the run to a node whose flag, with its own position, is b
    abbrev pick : Bool → ℕ → List Node → List Step
    pick b n [] = []
    pick b n (x ∷ xs) = elim (beq (x.flag || mark n x.state) b) [ true ↦ reverse x.run | false ↦ pick b n xs ]

    abbrev pub find : Bool → ℕ → List ℕ → List Step
    find b initial trace = pick b (length trace) (last 0 trace (first initial))

    -- each transition of a kept event from a node of the first list leads to one of the second
    abbrev pub covered : (ℕ → Bool) → ℕ → List Node → Node → ListedTransition → Bool
    covered keep c S' x t = implies (eqb t.from x.state && keep t.event) (any (is_node t.to (x.flag || mark c x.state)) S')

    abbrev pub passes : (ℕ → Bool) → ℕ → List Node → List Node → Bool
    passes keep c S S' = every (λ (x : Node). every (covered keep c S' x) ts) S

    abbrev pub other : Bool → ℕ → Node → Bool
    other b c x = not (beq (x.flag || mark c x.state) b)

    -- from the nodes S no run shows the rest with the flag b
    abbrev pub ahead : Bool → ℕ → List ℕ → List Node → Bool
    ahead b c [] S = passes silent c S S && every (other b c) S
    ahead b c (a ∷ rest) S =
        let S' : List Node = after a c S in
        passes silent c S S && (passes (showing a) c S S' && ahead b (c + 1) rest S')

    -- no compatible run has the flag b
    abbrev pub none : Bool → ℕ → List ℕ → Bool
    none b initial trace =
        let S : List Node = first initial in
        any (is_node initial false) S && ahead b 0 trace S

    abbrev pub steps_listed : ℕ → List Step → Bool
    steps_listed q [] = true
    steps_listed q (s ∷ ss) = listed (record { from = q; event = s.event; to = s.to }) ts && steps_listed s.to ss

    abbrev pub is_run : Bool → ℕ → List ℕ → List Step → Bool
    is_run b initial trace run = steps_listed initial run && (same_list (trace_of run) trace && beq (flag_of 0 initial run) b)

    -- some compatible run has the flag b
    abbrev pub some : Bool → ℕ → List ℕ → Bool
    some b initial trace = is_run b initial trace (find b initial trace)
