use Rattle.std.proofs.Common.{◌+◌, ◌≤◌}
use Rattle.witness_log.specs.Putting.{PutLines}
use Rattle.witness_log.proofs.telling.put_lines.Given as goal

abbrev pub invariant-loop-k : goal.invariant-loop-k
invariant-loop-k l =
    (l.k ≤ l.fn.estimator.count + 1) × PutLines l.fn.table l.fn.header l.fn.estimator l.fn.notion l.k l.fn.out l.fn.at l.out l.next
