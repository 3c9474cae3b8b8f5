use Rattle.std.proofs.Common.{◌*◌, map, take}
use Rattle.report.specs.Text.{decimal, led}
use Rattle.report.specs.Adding.{Adds}
use Rattle.report.proofs.Writer.more_symbols.Given as goal

abbrev pub invariant-loop-symbol : goal.invariant-loop-symbol
invariant-loop-symbol l = Adds (11 * l.symbol-index) (led 44 (map decimal (take l.symbol-index l.released))) l.initial.self l.self
