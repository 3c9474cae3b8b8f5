use Rattle.std.proofs.Common.{arith}
use Rattle.std.proofs.lemmas.Grind.{common_steps}
use Rattle.encode.proofs.Packed.{bytes_none}
use Rattle.encode.proofs.clear.Goals as goal

pub returns : goal.returns
returns c = grind (arith, common_steps, c.fill.ensures.after (λ y e. e), bytes_none c.args.size)
