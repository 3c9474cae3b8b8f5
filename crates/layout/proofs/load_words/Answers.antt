use Rattle.std.proofs.Common.{arith}
use Rattle.layout.proofs.Bytes.{fill_start, fill_turn, words_end}
use Rattle.layout.proofs.load_words.Goals as goal

pub loop-i-init : goal.loop-i-init
loop-i-init c = fill_start _

pub loop-i-preserved : goal.loop-i-preserved
loop-i-preserved c = fill_turn (omega arith) c.word_at.ensures c.loop-i.invariant

pub returns : goal.returns
returns c = words_end _ _ (omega arith) c.loop-i.invariant
