-- By what was found before, and by the test.
use Rattle.verifier.specs.Inner.{stays, leaks, clears}
use Rattle.verifier.proofs.several.with_step.Goals as goal

pub returns-in-NoLeak : goal.returns-in-NoLeak
returns-in-NoLeak c = rw c.in-NoLeak.is (leaks c.if-entry-then-eq0.true)

pub returns-in_default : goal.returns-in_default
returns-in_default c = rw c.in-NoLeak.is (clears c.if-entry-then-eq0.false)

pub returns-in_default-2 : goal.returns-in_default-2
returns-in_default-2 c = rw c.in_default.is stays
