use Rattle.monitor.proofs.opening.refused.Goals as goal

pub returns : goal.returns
returns c = let none = c.no_log.ensures in (none.0, rw none.2 (c.no_monitor.ensures _ none.1))
