-- `automaton::by_symbol` meets its contract. The invariant: each set has the events with its symbol that are no longer in `todo`, which falls. Assumes nothing.
use mathlib.Core.Path.{◌≡◌, refl, ap, ◌∙◌}
use mathlib.Core.List.{List}
use Prim.Native.Nat.{ℕ, ◌-◌, ◌^◌, ◌≤◌, ◌<◌}
use native.Mathlib.Omega.{arith}
use lib.ListN.{length, get_or, length-set}
use lib.Bits.{bit_and}
use lib.Count.{count_trailing_zeros}
use Rattle.stateset.specs.Set.{In}
use Rattle.stateset.proofs.Bits.{Taken, taken, in_lt}
use Rattle.automaton.specs.Run.{automaton_of}
use Rattle.lists.proofs.Filled.{zeros}
use Rattle.automaton.proofs.SymbolSets.{Sorted, with_event, sort_start, sort_turn, sort_end}
use Rattle.automaton.proofs.by_symbol.Statement.{statement}
use Rattle.automaton.proofs.by_symbol.Tie as tie

abbrev invariant-loop : tie.invariant-loop-todo
invariant-loop sets₀ symbols observable todo₀ sets todo = (todo < 2 ^ 64) × (length sets ≡ 32) × (observable < 2 ^ 32)
    × ((e : ℕ) → In e todo → In e observable)
    × ((k : ℕ) → k < 32 → Sorted symbols observable todo k (get_or sets k 0))

abbrev decreases-loop : tie.decreases-loop-todo
decreases-loop sets₀ symbols observable todo₀ sets todo = todo

next : (c : tie.In-loop-todo invariant-loop decreases-loop) → Taken c.loop-todo.todo (count_trailing_zeros 64 c.loop-todo.todo)
    (bit_and c.loop-todo.todo (c.loop-todo.todo - 1))
next c = taken c.loop-todo.todo (omega arith) c.loop-todo.invariant.0

-- the event that is looked at, and its symbol
seen : (c : tie.In-loop-todo invariant-loop decreases-loop) → In (count_trailing_zeros 64 c.loop-todo.todo) c.args.header.observable
seen c = c.loop-todo.invariant.3 _ (next c).inside

abbrev symbol_in : tie.In-loop-todo invariant-loop decreases-loop → ℕ
symbol_in c = get_or c.args.header.symbols (count_trailing_zeros 64 c.loop-todo.todo) 0

small : (c : tie.In-loop-todo invariant-loop decreases-loop) → symbol_in c ≤ 31
small c = c.requires.0 _ (seen c)

cast-observable : tie.Need-overflow_cast-observable invariant-loop decreases-loop
cast-observable c = omega arith

loop-holds : tie.Need-loop-todo-init invariant-loop decreases-loop
loop-holds c =
    let empty = c.requires.1 in
    (omega arith, ap length empty ∙ refl, omega arith, λ e i. i, λ k h. sort_start _ _ k _ (ap (λ (l : List ℕ). get_or l k 0) empty ∙ zeros 32 k))

cast-e : tie.Need-overflow_cast-e invariant-loop decreases-loop
cast-e c = omega (arith, (taken c.loop-todo.todo (omega arith) c.loop-todo.invariant.0).small)

array-read-s : tie.Need-bounds-symbols-e invariant-loop decreases-loop
array-read-s c =
    let v = c.loop-todo.invariant in
    omega (arith, in_lt 32 _ _ v.2 (v.3 _ (taken c.loop-todo.todo (omega arith) v.0).inside))

cast-s : tie.Need-overflow_cast-s invariant-loop decreases-loop
cast-s c = omega (arith, small c)

-- the number of the event
low : (c : tie.In-loop-todo invariant-loop decreases-loop) → count_trailing_zeros 64 c.loop-todo.todo < 32
low c = in_lt 32 _ _ c.loop-todo.invariant.2 (seen c)

cast-sets : tie.Need-overflow_cast-sets invariant-loop decreases-loop
cast-sets c = omega (arith, low c, small c)

shl-sets : tie.Need-overflow_shl-sets invariant-loop decreases-loop
shl-sets c = omega (arith, low c, small c)

mul-sets : tie.Need-offset_bounds-sets-s invariant-loop decreases-loop
mul-sets c = omega (arith, low c, small c)

slice-read-sets : tie.Need-bounds-sets-s invariant-loop decreases-loop
slice-read-sets c = omega (arith, low c.before, small c.before, c.loop-todo.invariant.1)

slice-write-sets : tie.Need-bounds-sets-s-in-loop-todo invariant-loop decreases-loop
slice-write-sets c = omega (arith, low c.before, small c.before, c.loop-todo.invariant.1)

sub-todo : tie.Need-overflow_sub-todo invariant-loop decreases-loop
sub-todo c = omega arith

loop-less : tie.Need-loop-todo-smaller invariant-loop decreases-loop
loop-less c = (next c.before).less

loop-again : tie.Need-loop-todo-preserved invariant-loop decreases-loop
loop-again c =
    let v = c.loop-todo.invariant in
    let k = next c.before in (
      omega (arith, k.less),
      simp length-set v.1,
      v.2,
      λ e i. v.3 e (k.kept e i),
      sort_turn _ _ _ _ _ (symbol_in c.before) _ c.loop-todo.sets k refl (omega (arith, v.1, small c.before)) (seen c.before)
          (with_event _ _ (low c.before)) v.4,
    )

same_length : tie.Need-shape_of-sets invariant-loop decreases-loop
same_length c = omega (arith, c.loop-todo.invariant.1, ap length c.requires.1)

returns : tie.Need-returns invariant-loop decreases-loop
returns c = λ t.
    let v = c.loop-todo.invariant in
    record {
      size = v.1;
      each = λ k h. sort_end (automaton_of t c.args.header) _ _ _ v.2 c.loop-todo-test.false (v.4 k h);
    }

pub by_symbol_spec : {M : Type 1} → statement M
by_symbol_spec =
    tie.close
    (tie.spec
    invariant-loop
    decreases-loop
    cast-observable
    loop-holds
    cast-e
    array-read-s
    cast-s
    cast-sets
    shl-sets
    mul-sets
    slice-read-sets
    slice-write-sets
    sub-todo
    loop-less
    loop-again
    same_length
    returns)
