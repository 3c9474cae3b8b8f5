-- `witness::checker::transition` meets its contract: a member of a 64-bit set is below 64.
use native.Mathlib.Omega.{arith}
use Rattle.stateset.proofs.Bits.{in_lt}
use Rattle.stateset.proofs.Decides.{decided_as}
use borrow.Author.Rules.{rules}
use Rattle.witness.proofs.checker.transition.Statement.{statement}
use Rattle.witness.proofs.checker.transition.Tie as tie

returns : tie.Need-returns-then-from-gt63
returns c = search rules

returns-2 : tie.Need-returns-then-event-gt31
returns-2 c = search rules

mul_at : tie.Need-overflow_mul-at
mul_at c = search rules

add_at : tie.Need-overflow_add-at
add_at c = search rules

mul-member : tie.Need-offset_bounds-table-at
mul-member c = search rules

shared-slice-read-member : tie.Need-bounds-table-at
shared-slice-read-member c = search rules

member-requires : tie.Need-member-requires
member-requires c κs = search rules

returns-3 : tie.Need-returns
returns-3 c =
    let a = c.args in
    decided_as c.member.result
    (λ i. record {
      from_small = omega arith;
      event_small = omega arith;
      to_small = in_lt 64 a.to _ (c.shared_slice_known-2-1.given _).fits i;
      listed = i;
    })
    (λ t. t.listed)
    c.member.ensures

pub transition_spec : {M : Type 1} → statement M
transition_spec =
    tie.close
    (tie.spec
    returns
    returns-2
    mul_at
    add_at
    mul-member
    shared-slice-read-member
    member-requires
    returns-3)
