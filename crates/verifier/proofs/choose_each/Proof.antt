-- `verifier::choose_each` meets its contract: the notion's own verdict of each place.
use mathlib.Core.Path.{refl}
use borrow.Author.Rules.{rules}
use Rattle.verifier.proofs.choose_each.Statement.{statement}
use Rattle.verifier.proofs.choose_each.Tie as tie

choose-requires : tie.Need-choose-requires
choose-requires c κs = search rules

choose-requires-2 : tie.Need-choose-requires-2
choose-requires-2 c κs = search rules

choose-requires-3 : tie.Need-choose-requires-3
choose-requires-3 c κs = search rules

choose-requires-4 : tie.Need-choose-requires-4
choose-requires-4 c κs = search rules

returns : tie.Need-returns
returns c = rw (c.choose-4.ensures, c.choose-3.ensures, c.choose-2.ensures, c.choose.ensures) refl

pub choose_each_spec : {M : Type 1} → statement M
choose_each_spec =
    tie.close
    (tie.spec choose-requires choose-requires-2 choose-requires-3 choose-requires-4 returns)
