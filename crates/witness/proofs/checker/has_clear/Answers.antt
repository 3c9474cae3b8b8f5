use Rattle.std.proofs.Common.{subst}
use Rattle.stateset.proofs.Decides.{holds, fails}
use Rattle.witness.proofs.Scanning.{pair_first, Scanned, scan_start, scan_clear, scan_end, scan_shown, scan_turn}
use Rattle.witness.proofs.checker.has_clear.Goals as goal

pub loop-rest-init : goal.loop-rest-init
loop-rest-init c = λ p steps o e. scan_start _ _ _ _ _ e

pub returns-in_default : goal.returns-in_default
returns-in_default c = λ p steps o e.
    scan_end _ _ _ _ _ _ (holds c.member.result c.loop-rest-test.true c.member.ensures) c.in_default.len_below (c.loop-rest.invariant p steps o e)

pub returns-then-member : goal.returns-then-member
returns-then-member c = λ p steps o e.
    scan_shown _ _ _ _ _ o _ _ _ _ (holds c.member.result c.loop-rest-test.true c.member.ensures)
    (holds c.member-in-loop-rest.result c.if-member.true c.member-in-loop-rest.ensures)
    (subst (Scanned _ _ _ _ _) (pair_first c.loop-rest.rest.now c.in-len2-up.len_at_least) (c.loop-rest.invariant p steps o e))

pub loop-rest-preserved : goal.loop-rest-preserved
loop-rest-preserved c = λ p steps o e.
    scan_turn _ _ _ _ _ o _ _ _ _ (holds c.member.result c.loop-rest-test.true c.member.ensures)
    (fails c.member-in-loop-rest.result c.if-member.false c.member-in-loop-rest.ensures)
    (subst (Scanned _ _ _ _ _) (pair_first c.loop-rest.rest.now c.in-len2-up.len_at_least) (c.loop-rest.invariant p steps o e))

pub returns : goal.returns
returns c = λ p steps o e. scan_clear _ _ _ _ _ _ (fails c.member.result c.loop-rest-test.false c.member.ensures) (c.loop-rest.invariant p steps o e)
