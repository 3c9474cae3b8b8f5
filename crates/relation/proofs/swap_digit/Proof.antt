-- `relation::swap_digit` meets its contract. The loop has the invariant `Swapping`: the words below `2 i` are done. Assumes nothing.
use Prim.Native.Nat.{◌-◌, ◌*◌, ◌≤◌}
use native.Mathlib.Omega.{arith}
use Rattle.relation.proofs.Swapping.{Swapping, swapping_start, swapping_turn, swapping_end}
use Rattle.relation.proofs.swap_digit.Statement.{statement}
use Rattle.relation.proofs.swap_digit.Tie as tie

abbrev invariant-loop : tie.invariant-loop-i
invariant-loop rows j mask out₀ i₀ out i = (i ≤ 32) × Swapping j rows out (2 * i)

abbrev decreases-loop : tie.decreases-loop-i
decreases-loop rows j mask out₀ i₀ out i = 32 - i

loop-holds : tie.Need-loop-i-init invariant-loop decreases-loop
loop-holds c = (omega arith, swapping_start _ _)

mul_low : tie.Need-offset_bounds-rows-i invariant-loop decreases-loop
mul_low c = omega arith

shared-slice-read-low : tie.Need-bounds-rows-i invariant-loop decreases-loop
shared-slice-read-low c = omega arith

add-high : tie.Need-overflow_add-high invariant-loop decreases-loop
add-high c = omega arith

mul-high : tie.Need-offset_bounds-rows-i-in-loop-i invariant-loop decreases-loop
mul-high c = omega arith

shared-slice-read-high : tie.Need-bounds-rows-i-in-loop-i invariant-loop decreases-loop
shared-slice-read-high c = omega arith

shl-out : tie.Need-overflow_shl-out invariant-loop decreases-loop
shl-out c = omega arith

mul-out : tie.Need-overflow_mul-out invariant-loop decreases-loop
mul-out c = omega arith

mul-out-2 : tie.Need-offset_bounds-out-i invariant-loop decreases-loop
mul-out-2 c = omega arith

array-write-out : tie.Need-bounds-out-i invariant-loop decreases-loop
array-write-out c = omega arith

shr-out : tie.Need-overflow_shr-out invariant-loop decreases-loop
shr-out c = omega arith

mul-out-3 : tie.Need-overflow_mul-out-in-loop-i invariant-loop decreases-loop
mul-out-3 c = omega arith

add-out : tie.Need-overflow_add-out invariant-loop decreases-loop
add-out c = omega arith

mul-out-4 : tie.Need-offset_bounds-out-i-in-loop-i invariant-loop decreases-loop
mul-out-4 c = omega arith

array-write-out-2 : tie.Need-bounds-out-i-in-loop-i invariant-loop decreases-loop
array-write-out-2 c = omega arith

add-i : tie.Need-overflow_step-i invariant-loop decreases-loop
add-i c = omega arith

loop-less : tie.Need-loop-i-smaller invariant-loop decreases-loop
loop-less c = omega arith

loop-again : tie.Need-loop-i-preserved invariant-loop decreases-loop
loop-again c =
    let l = c.loop-i in
    (omega arith, swapping_turn _ _ _ _ l.i c.requires.0 c.ranges.mask.fits c.requires.2 (omega arith) l.invariant.1)

returns : tie.Need-returns invariant-loop decreases-loop
returns c = swapping_end _ _ _ _ (omega arith) c.loop-i.invariant.1

pub swap_digit_spec : {M : Type 1} → statement M
swap_digit_spec =
    tie.close
    (tie.spec
    invariant-loop
    decreases-loop
    loop-holds
    mul_low
    shared-slice-read-low
    add-high
    mul-high
    shared-slice-read-high
    shl-out
    mul-out
    mul-out-2
    array-write-out
    shr-out
    mul-out-3
    add-out
    mul-out-4
    array-write-out-2
    add-i
    loop-less
    loop-again
    returns)
