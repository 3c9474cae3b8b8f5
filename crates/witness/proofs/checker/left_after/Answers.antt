use Rattle.std.proofs.Common.{◌≡◌, arith}
use Rattle.stateset.proofs.Bits.{in_lt}
use Rattle.stateset.proofs.Decides.{holds, fails}
use Rattle.witness.specs.Inner.{automaton_with}
use Rattle.witness.proofs.Lasting.{left_same, left_other, left_next}
use Rattle.witness.proofs.checker.left_after.Goals as goal

pub returns-then-not-member : goal.returns-then-not-member
returns-then-not-member c = λ t initial.
    left_same (automaton_with t initial _ c.args.symbols) _ _ _ (fails c.member.result c.if-not-member.true c.member.ensures)

-- an observable event is one of 32
pub bounds-symbols-event : goal.bounds-symbols-event
bounds-symbols-event c = in_lt 32 c.args.event c.args.observable c.ranges.observable.fits (holds c.member.result c.if-not-member.false c.member.ensures)

pub returns-then-last-next : goal.returns-then-last-next
returns-then-last-next c = λ t initial rest h.
    let some : c.args.left ≡ 0 → ⊥ = λ z. omega (arith, c.in_ok-next.ensures.0) in
    left_other (automaton_with t initial c.args.observable c.args.symbols) c.args.last c.args.event
    (holds c.member.result c.if-not-member.false c.member.ensures) c.args.left some (λ s. c.if-last-next.true (rw c.in_ok-next.ensures.1 s)) rest h

pub returns : goal.returns
returns c = λ t initial.
    let some : c.args.left ≡ 0 → ⊥ = λ z. omega (arith, c.in_ok-next.ensures.0) in
    rw c.in_ok-next.ensures.1 (left_next (automaton_with t initial c.args.observable c.args.symbols) c.args.last c.args.event
    (holds c.member.result c.if-not-member.false c.member.ensures) c.args.left some (rw c.in_ok-next.ensures.1 at c.if-last-next.false))
