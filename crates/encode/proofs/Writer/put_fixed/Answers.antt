use Rattle.encode.proofs.Steps.{fixed_all}
use Rattle.encode.proofs.Writer.put_fixed.Goals as goal

pub returns : goal.returns
returns c =
    fixed_all _ c.put_number.ensures c.put_number-2.ensures c.put_number-3.ensures c.put_number-4.ensures c.put_number-5.ensures c.put_number-6.ensures
