use Rattle.std.proofs.Common.{◌+◌, ◌*◌, length}
use Rattle.layout.specs.Sizes.{word_size}
use Rattle.layout.specs.Layout.{word_at}
use Rattle.layout.proofs.Bytes.{Filled}
use Rattle.layout.proofs.load_words.Given as goal

-- the first i places are filled
abbrev pub invariant-loop-i : goal.invariant-loop-i
invariant-loop-i l = Filled (λ k. word_at l.fn.bytes (l.fn.at + word_size * k)) (length l.fn.words) l.i l.words
