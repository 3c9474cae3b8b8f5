use Rattle.std.proofs.Common.{arith}
use Rattle.streams.proofs.Feeding.{feeding_read}
use Rattle.leak_log.proofs.read_on.Goals as goal

pub overflow_sub-result : goal.overflow_sub-result
overflow_sub-result g c = omega (arith, feeding_read c.read_on-rest.ensures.fed.feeding)
