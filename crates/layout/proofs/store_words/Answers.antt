use Rattle.std.proofs.Common.{arith}
use Rattle.layout.proofs.Stores.{store_start, words_turn, words_left}
use Rattle.layout.proofs.store_words.Goals as goal

pub loop-i-init : goal.loop-i-init
loop-i-init c = store_start _ _ _ _ (omega arith)

pub loop-i-preserved : goal.loop-i-preserved
loop-i-preserved c =
    let l = c.loop-i in
    words_turn c.args.words.now l.i l.invariant (omega arith) c.store_number.ensures (omega arith)

pub returns : goal.returns
returns c = (λ j. (c.type_inv.words j).fits, words_left c.args.words.now c.loop-i.i c.loop-i.invariant (omega arith))
