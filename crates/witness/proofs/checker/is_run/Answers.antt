use Rattle.std.proofs.Common.{◌≡◌, length, refl, arith}
use Rattle.stateset.proofs.Decides.{holds, fails, decided_as}
use Rattle.witness.proofs.Scanning.{pair_first, zero_decided, nil, recent_none, none_recent}
use Rattle.witness.proofs.Scanning.{read_odd, read_end, read_ended, read_no_transition, read_outside, read_wrong, read_turn}
use Rattle.witness.proofs.checker.is_run.Goals as goal

pub returns-then-not-transition : goal.returns-then-not-transition
returns-then-not-transition c =
    read_no_transition _ _ _ _ _ _ _ _ c.loop-rest.invariant.1 _ _ _ (pair_first c.loop-rest.rest.now c.in-len2-up.len_at_least)
    (fails c.transition.result c.if-not-transition.true c.transition.ensures)

pub returns-then-not-member : goal.returns-then-not-member
returns-then-not-member c =
    read_outside _ _ _ _ _ _ _ _ c.loop-rest.invariant.1 _ _ _ (pair_first c.loop-rest.rest.now c.in-len2-up.len_at_least)
    (fails c.member.result c.if-not-member.true c.member.ensures)

pub returns-in_default-left_after : goal.returns-in_default-left_after
returns-in_default-left_after c =
    read_wrong _ _ _ _ _ _ _ _ c.loop-rest.invariant.1 _ _ _ (pair_first c.loop-rest.rest.now c.in-len2-up.len_at_least)
    (c.in_default-left_after.ensures c.args.table.now c.args.header.initial)

pub loop-rest-preserved : goal.loop-rest-preserved
loop-rest-preserved c = (
  omega (arith, (c.in-Some.ensures c.args.table.now c.args.header.initial).0, c.loop-rest.invariant.0),
  read_turn _ _ _ _ _ _ _ _ c.loop-rest.invariant.1 _ _ _ (pair_first c.loop-rest.rest.now c.in-len2-up.len_at_least) _
      (holds c.transition.result c.if-not-transition.false c.transition.ensures)
      (holds c.member.result c.if-not-member.false c.member.ensures)
      (c.in-Some.ensures c.args.table.now c.args.header.initial).1,
)

pub returns-then-is_empty : goal.returns-then-is_empty
returns-then-is_empty c =
    let rest = c.loop-rest.rest.now in
    let none = nil rest (holds _ c.if-is_empty.true (zero_decided (length rest) c.is_empty.result c.is_empty.ensures)) in
    let x = c.loop-rest.invariant.1 in
    decided_as _ (λ z. read_end _ _ _ _ _ _ _ _ x none (recent_none _ _ z)) (λ f. none_recent _ _ (read_ended _ _ _ _ _ _ _ _ x none f))
    (zero_decided c.loop-rest.left _ refl)

pub returns-else-is_empty : goal.returns-else-is_empty
returns-else-is_empty c =
    let rest = c.loop-rest.rest.now in
    let some : length rest ≡ 0 → ⊥ = fails _ c.if-is_empty.false (zero_decided (length rest) c.is_empty.result c.is_empty.ensures) in
    rw c.if-is_empty.false (read_odd _ _ _ _ _ _ _ _ c.loop-rest.invariant.1 (omega (arith, some, c.in_default.len_below)))
