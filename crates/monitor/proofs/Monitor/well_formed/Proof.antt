-- `monitor::Monitor::well_formed` meets its contract: each test decides one of the limits.
use Rattle.stateset.proofs.Decides.{holds, fails, decided_as}
use borrow.Author.Rules.{rules}
use Rattle.monitor.proofs.Monitor.well_formed.Statement.{statement}
use Rattle.monitor.proofs.Monitor.well_formed.Tie as tie

well-formed-requires : tie.Need-well_formed-requires
well-formed-requires c κs = search rules

returns : tie.Need-returns-then-not-well_formed
returns c = λ w. fails c.well_formed-2.result c.if-not-well_formed.true c.well_formed-2.ensures (w.well_formed, w.estimator)

balanced-requires : tie.Need-balanced-requires
balanced-requires c κs = search rules

returns-2 : tie.Need-returns-then-not-balanced
returns-2 c = λ w. fails c.balanced.result c.if-not-balanced.true c.balanced.ensures w.balanced

well-formed-requires-2 : tie.Need-well_formed-requires-2
well-formed-requires-2 c κs = search rules

returns-3 : tie.Need-returns
returns-3 c =
    let good = holds c.well_formed-2.result c.if-not-well_formed.false
    c.well_formed-2.ensures in
    let agree = holds c.balanced.result c.if-not-balanced.false
    c.balanced.ensures in
    decided_as c.well_formed-3.result
    (λ x. record { well_formed = x.0; estimator = good.1; enforcer = x.1; balanced = agree })
    (λ w. (w.well_formed, w.enforcer))
    c.well_formed-3.ensures

pub well_formed_spec : {M : Type 1} → statement M
well_formed_spec =
    tie.close
    (tie.spec well-formed-requires returns balanced-requires returns-2 well-formed-requires-2 returns-3)
