use mathlib.Core.Path.{refl}
use native.Mathlib.Omega.{arith}
use Rattle.monitor.proofs.Outcomes.{printed}
use borrow.Author.Rules.{rules}
use Rattle.monitor.proofs.Monitor.log_refused.Statement.{statement}
use Rattle.monitor.proofs.Monitor.log_refused.Tie as tie

refused-requires : tie.Need-refused-line-requires
refused-requires c κs = search rules

add-t12 : tie.Need-overflow_add-result
add-t12 c = search rules

place-requires : tie.Need-place-requires
place-requires c κs = search rules

same_length : tie.Need-shape_of-out
same_length c = search rules

returns : tie.Need-returns
returns c = (
  refl,
  rw c.place.ensures (printed (omega (arith, c.requires.room))
      c.refused-line.ensures),
)

pub log_refused_spec : {M : Type 1} → statement M
log_refused_spec = tie.close (tie.spec refused-requires add-t12 place-requires same_length returns)
