use Rattle.log_output.specs.Feeding.{emptied, closed}
use Rattle.log_output.proofs.output.written_out.Goals as goal

pub returns-then-not-flush : goal.returns-then-not-flush
returns-then-not-flush g c = closed

pub returns : goal.returns
returns g c = emptied (c.flush.ensures c.if-not-flush.false)
