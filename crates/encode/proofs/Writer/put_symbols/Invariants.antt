-- The symbols before the index are written.
use Rattle.std.proofs.Common.{take}
use Rattle.encode.specs.FieldBits.{symbols_bits}
use Rattle.encode.specs.Writes.{Writes}
use Rattle.encode.proofs.Writer.put_symbols.Given as goal

abbrev pub invariant-loop-symbol : goal.invariant-loop-symbol
invariant-loop-symbol l = Writes (symbols_bits (take l.symbol-index l.symbols)) l.initial.self l.self
