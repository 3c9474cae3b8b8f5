-- `automaton::small_symbols` meets its contract. The invariant: the events that are no longer in `untested`, which falls, have small symbols. Assumes nothing.
use Prim.Native.Nat.{◌-◌, ◌^◌, ◌<◌}
use native.Mathlib.Omega.{arith}
use lib.Bits.{bit_and}
use lib.Count.{count_trailing_zeros}
use borrow.Author.Rules.{rules}
use Rattle.stateset.proofs.Bits.{Taken, taken, in_lt}
use Rattle.automaton.proofs.SymbolSets.{Tested, test_start, test_turn, test_end}
use Rattle.automaton.proofs.small_symbols.Statement.{statement}
use Rattle.automaton.proofs.small_symbols.Tie as tie

abbrev invariant-loop : tie.invariant-loop-untested
invariant-loop symbols observable untested₀ untested = Tested symbols observable untested × (untested < 2 ^ 64)

abbrev decreases-loop : tie.decreases-loop-untested
decreases-loop symbols observable untested₀ untested = untested

next : (c : tie.In-loop-untested invariant-loop decreases-loop) → Taken c.loop-untested.untested (count_trailing_zeros 64 c.loop-untested.untested)
    (bit_and c.loop-untested.untested (c.loop-untested.untested - 1))
next c = taken c.loop-untested.untested (omega arith) c.loop-untested.invariant.1

upper-bound-requires : tie.Need-upper_bound-requires invariant-loop decreases-loop
upper-bound-requires c κs = search rules

-- all 32 are small, and so are those of the observable events
returns : tie.Need-returns-then-upper_bound-le31 invariant-loop decreases-loop
returns c = λ e i. omega (arith, c.upper_bound.ensures e (in_lt 32 e _ (omega arith) i), c.if-upper_bound-le31.true)

cast-observable : tie.Need-overflow_cast-observable invariant-loop decreases-loop
cast-observable c = omega arith

loop-holds : tie.Need-loop-untested-init invariant-loop decreases-loop
loop-holds c = (test_start _ _ (omega arith), omega arith)

cast-e : tie.Need-overflow_cast-e invariant-loop decreases-loop
cast-e c = omega (arith, (taken c.loop-untested.untested (omega arith) c.loop-untested.invariant.1).small)

array-read-if2 : tie.Need-bounds-symbols-e invariant-loop decreases-loop
array-read-if2 c =
    let g = c.loop-untested.invariant.0 in
    omega (arith, in_lt 32 _ _ g.small (g.sub _ (taken c.loop-untested.untested (omega arith) c.loop-untested.invariant.1).inside))

returns-2 : tie.Need-returns-then-symbols-e-gt31 invariant-loop decreases-loop
returns-2 c = λ all.
    let g = c.loop-untested.invariant.0 in
    omega (arith, all _ (g.sub _ (next c.before).inside), c.if-symbols-e-gt31.true)

sub-untested : tie.Need-overflow_sub-untested invariant-loop decreases-loop
sub-untested c = omega arith

loop-less : tie.Need-loop-untested-smaller invariant-loop decreases-loop
loop-less c = (next c.before).less

loop-again : tie.Need-loop-untested-preserved invariant-loop decreases-loop
loop-again c = (test_turn _ _ _ _ _ (next c.before) (omega (arith, c.if-symbols-e-gt31.false)) c.loop-untested.invariant.0, omega (arith, (next c.before).less))

returns-3 : tie.Need-returns invariant-loop decreases-loop
returns-3 c = test_end _ _ _ c.loop-untested-test.false c.loop-untested.invariant.0

pub small_symbols_spec : {M : Type 1} → statement M
small_symbols_spec =
    tie.close
    (tie.spec
    invariant-loop
    decreases-loop
    upper-bound-requires
    returns
    cast-observable
    loop-holds
    cast-e
    array-read-if2
    returns-2
    sub-untested
    loop-less
    loop-again
    returns-3)
