-- Each event byte so far is taken, and its line stands.
use Rattle.std.proofs.Common.{◌≡◌}
use Rattle.monitor.specs.Advancing.{Along}
use Rattle.monitor.proofs.Monitor.advance.Given as goal

abbrev pub invariant-loop-byte : goal.invariant-loop-byte
invariant-loop-byte l = record {
  taken : l.taken ≡ l.byte-index;
  along : Along l.table l.header l.initial.now l.events l.fn.out l.at l.now l.next l.byte-index l.out;
}
