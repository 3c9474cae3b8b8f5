-- The symbols of the first `e` events stand in the array.
use Rattle.std.proofs.Common.{◌≡◌, ◌<◌, ℕ, length, get_or}
use Rattle.bitfields.specs.Bits.{bits_of}
use Rattle.encoding.specs.Transitions.{symbols_at}
use Rattle.encoding.specs.Answers.{symbol_for}
use Rattle.encoding.proofs.header.all_symbols.Given as goal

abbrev pub invariant-loop-e : goal.invariant-loop-e
invariant-loop-e l =
    (length l.symbols ≡ 32) × ((k : ℕ) → k < l.e → get_or l.symbols k 0 ≡ symbol_for l.observable (symbols_at (bits_of l.bytes) l.at l.n) k)
