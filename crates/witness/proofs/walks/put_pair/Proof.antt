-- `witness::walks::put_pair` meets its contract: two stores, one behind the other.
use mathlib.Core.Path.{◌≡◌, ap}
use Prim.Native.Nat.{ℕ, suc, ◌+◌}
use native.Mathlib.Omega.{arith}
use borrow.Author.Rules.{rules}
use lib.ListN.{set, length-set}
use Rattle.witness.proofs.walks.put_pair.Statement.{statement}
use Rattle.witness.proofs.walks.put_pair.Tie as tie

slice-write-output : tie.Need-bounds-output-at
slice-write-output c = search rules

add-output : tie.Need-overflow_add-output
add-output c = search rules

slice-write-output-2 : tie.Need-bounds-output-at-2
slice-write-output-2 c = omega (arith, length-set c.args.output.now c.args.at c.args.event, c.requires)

same_length : tie.Need-shape_of-output
same_length c = search rules

returns : tie.Need-returns
returns c =
    let one : c.args.at + 1 ≡ suc c.args.at = omega arith in
    ap (λ (n : ℕ). set (set c.args.output.now c.args.at c.args.event) n c.args.state) one

pub put_pair_spec : {M : Type 1} → statement M
put_pair_spec =
    tie.close (tie.spec slice-write-output add-output slice-write-output-2 same_length returns)
