use Rattle.std.proofs.Common.{arith}
use Rattle.log_output.specs.Progressing.{free, emptied, closed}
use Rattle.log_output.proofs.output.with_room.Goals as goal
use Rattle.log_output.proofs.output.with_room.Goals.{else-at-out-via-then-at-out+else-out-at-ge-LINE, else-at-out-via-else-at-out}

pub returns-then-out-at-ge-LINE : goal.returns-then-out-at-ge-LINE
returns-then-out-at-ge-LINE g c = free (omega arith)

pub returns-then-not-flush : goal.returns-then-not-flush
returns-then-not-flush g c =
    (closed (λ room. elim c.else-at-out.branch [ else-at-out-via-then-at-out+else-out-at-ge-LINE w ↦ omega arith | else-at-out-via-else-at-out w ↦ omega arith ]))

pub returns : goal.returns
returns g c = emptied
    (λ room. elim c.else-at-out.branch [ else-at-out-via-then-at-out+else-out-at-ge-LINE w ↦ omega arith | else-at-out-via-else-at-out w ↦ omega arith ])
    (c.flush.ensures c.if-not-flush.false)
