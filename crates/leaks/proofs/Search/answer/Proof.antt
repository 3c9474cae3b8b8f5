-- `leaks::Search::answer` meets its contract.
use mathlib.Core.Path.{ap, sym}
use mathlib.Core.Bool.{Bool}
use Rattle.leaks.specs.Searches.{found_said}
use Rattle.leaks.proofs.Search.answer.Statement.{statement}
use Rattle.leaks.proofs.Search.answer.Tie as tie

returns : tie.Need-returns-then-self
returns c = ap (λ (b : Bool). found_said b c.args.self.accepted) (sym c.if-self.true)

returns-2 : tie.Need-returns
returns-2 c = ap (λ (b : Bool). found_said b c.args.self.accepted) (sym c.if-self.false)

pub answer_spec : {M : Type 1} → statement M
answer_spec = tie.close (tie.spec returns returns-2)
