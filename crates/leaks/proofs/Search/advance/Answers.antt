use Rattle.std.proofs.Common.{inl, inr, arith}
use Rattle.stateset.proofs.Decides.{fails}
use Rattle.leaks.specs.Searches.{Advancing}
use Rattle.leaks.proofs.Searching.{along_next, along_end}
use Rattle.leaks.proofs.Search.advance.Goals as goal
use Rattle.leaks.proofs.Search.advance.Goals.{else-loop-byte-test, then-loop-byte-test+then-now}

pub returns-then-not-within : goal.returns-then-not-within
returns-then-not-within c = Advancing.malformed (fails c.within.result c.if-not-within.true c.within.ensures)

pub loop-byte-preserved : goal.loop-byte-preserved
loop-byte-preserved c =
    let l = c.loop-byte in
    along_next _ _ _ _ l.now l.byte-index c.step-now.result l.invariant c.loop-byte-test.true c.step-now.ensures

-- all of the block is searched, or the leak is found
pub returns : goal.returns
returns c =
    let a = c.args in
    let l = c.loop-byte in
    rw c.answer.ensures
    (elim c.loop-byte-test.branch [
      | else-loop-byte-test w ↦ along_end a.table.now a.header a.self a.bytes.now l.now l.byte-index l.invariant (inl (omega arith))
      | then-loop-byte-test+then-now w ↦ along_end a.table.now a.header a.self a.bytes.now l.now l.byte-index l.invariant (inr w.if-now.true)
    ])
