use Rattle.encode.proofs.Steps.{front_all}
use Rattle.encode.proofs.Writer.put_front.Goals as goal

pub returns : goal.returns
returns c = front_all _ c.put_fixed.ensures c.put_flags.ensures c.put_flags-2.ensures
