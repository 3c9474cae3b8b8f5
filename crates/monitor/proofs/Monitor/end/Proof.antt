use mathlib.Core.Path.{subst}
use mathlib.Core.List.{List}
use Prim.Native.Nat.{ℕ}
use native.Mathlib.Omega.{arith}
use Rattle.report.specs.Writing.{room_at_end, Written}
use Rattle.monitor.proofs.Endings.{with_none, with_some}
use borrow.Author.Rules.{rules}
use Rattle.monitor.proofs.Monitor.end.Statement.{statement}
use Rattle.monitor.proofs.Monitor.end.Tie as tie

cast-pending : tie.Need-overflow_cast-pending
cast-pending c = search rules

idle-requires : tie.Need-idle-requires
idle-requires c κs = search rules

same_length : tie.Need-shape_of-out-then-self-eq0
same_length c = search rules

returns : tie.Need-returns-then-self-eq0
returns c =
    let a = c.args in
    let called = c.idle in
    subst (λ (l : List ℕ). Written room_at_end a.out.now a.at l called.result called.new.out)
    (with_none a.self c.if-self-eq0.true) called.ensures

ended-requires : tie.Need-ended-requires
ended-requires c κs = search rules

same-length-2 : tie.Need-shape_of-out
same-length-2 c = search rules

returns-2 : tie.Need-returns
returns-2 c =
    let a = c.args in
    let called = c.ended in
    subst (λ (l : List ℕ). Written room_at_end a.out.now a.at l called.result called.new.out)
    (with_some a.self (omega (arith, c.if-self-eq0.false))) called.ensures

pub end_spec : {M : Type 1} → statement M
end_spec =
    tie.close
    (tie.spec cast-pending idle-requires same_length returns ended-requires same-length-2 returns-2)
