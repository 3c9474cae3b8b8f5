use mathlib.Core.Path.{refl}
use native.Mathlib.Omega.{arith}
use Rattle.monitor.proofs.Outcomes.{printed}
use borrow.Author.Rules.{rules}
use Rattle.monitor.proofs.Monitor.log_accepted.Statement.{statement}
use Rattle.monitor.proofs.Monitor.log_accepted.Tie as tie

add-accepted : tie.Need-overflow_add-accepted
add-accepted c = search rules

accepted-requires : tie.Need-accepted-line-requires
accepted-requires c κs = search rules

add-t14 : tie.Need-overflow_add-result
add-t14 c = search rules

cast-t16 : tie.Need-overflow_cast-result
cast-t16 c = search rules

add-t17 : tie.Need-overflow_add-result-2
add-t17 c = let fits = c.requires.1.released in search rules

place-requires : tie.Need-place-requires
place-requires c κs = search rules

same_length : tie.Need-shape_of-out
same_length c = search rules

returns : tie.Need-returns
returns c = (
  refl,
  rw c.place.ensures
      (printed (omega (
        arith,
        c.requires.0.room,
        c.requires.1.few,
      ))
      c.accepted-line.ensures),
)

pub log_accepted_spec : {M : Type 1} → statement M
log_accepted_spec =
    tie.close
    (tie.spec
    add-accepted
    accepted-requires
    add-t14
    cast-t16
    add-t17
    place-requires
    same_length
    returns)
