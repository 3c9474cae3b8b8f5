-- `relation::pair` meets its contract: two turns of the loop of `Sets::preimage` of `StateSets`, from the higher of both down. Assumes nothing.
use Prim.Native.Nat.{◌+◌}
use native.Mathlib.Omega.{arith}
use borrow.Author.Rules.{rules}
use Rattle.relation.proofs.Falling.{from_start, row_turn}
use Rattle.relation.proofs.pair.Statement.{statement}
use Rattle.relation.proofs.pair.Tie as tie

add-shift : tie.Need-overflow_add-first
add-shift c = search rules

mul-shift : tie.Need-offset_bounds-rows-first
mul-shift c = search rules

shared-slice-read-shift : tie.Need-bounds-rows-first
shared-slice-read-shift c = search rules

shift-requires : tie.Need-shift-second-requires
shift-requires c κs = search rules

mul-shift-2 : tie.Need-offset_bounds-rows-first-2
mul-shift-2 c = search rules

shared-slice-read-shift-2 : tie.Need-bounds-rows-first-2
shared-slice-read-shift-2 c = search rules

shift-requires-2 : tie.Need-shift-requires
shift-requires-2 c κs = search rules

returns : tie.Need-returns
returns c =
    let a = c.args in
    let n = a.first in
    let fits = c.requires in
    let turn = row_turn a.rows.now (n + 2) a.set in
    let higher = turn (n + 1) (n + 2) 0 _ (omega arith) (omega arith) (omega (arith, fits)) (from_start _ _ (λ x m. m.0))
    c.shift-second.ensures in
    let two = turn n (n + 1) _ _ (omega arith) (omega arith) (omega (arith, fits)) higher c.shift.ensures in
    record { sound = λ d i. let m = two.sound d i in (omega (arith, m.0), m.1); whole = λ d m. two.whole d (omega (arith, m.0), m.1) }

pub pair_spec : {M : Type 1} → statement M
pair_spec =
    tie.close
    (tie.spec
    add-shift
    mul-shift
    shared-slice-read-shift
    shift-requires
    mul-shift-2
    shared-slice-read-shift-2
    shift-requires-2
    returns)
