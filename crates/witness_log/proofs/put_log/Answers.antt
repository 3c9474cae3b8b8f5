use Rattle.witness_log.specs.Printing.{ran, unread}
use Rattle.witness_log.proofs.put_log.Goals as goal

pub returns-in-Bytes : goal.returns-in-Bytes
returns-in-Bytes g c = ran c.run.ensures

pub returns-in-Failed : goal.returns-in-Failed
returns-in-Failed g c = unread
