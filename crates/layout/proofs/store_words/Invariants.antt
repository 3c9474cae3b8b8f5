use Rattle.std.proofs.Common.{◌+◌, ◌*◌, drop}
use Rattle.layout.specs.Sizes.{word_size}
use Rattle.layout.specs.Layout.{words_bytes}
use Rattle.layout.proofs.Stores.{Storing}
use Rattle.layout.proofs.store_words.Given as goal

-- with the words that are left to store the slice is as it should be
abbrev pub invariant-loop-i : goal.invariant-loop-i
invariant-loop-i l = Storing l.fn.bytes l.fn.at (words_bytes l.fn.words) (l.fn.at + word_size * l.i) l.bytes (words_bytes (drop l.i l.fn.words))
