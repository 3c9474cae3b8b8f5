use Rattle.std.proofs.Common.{ℕ, List, sym, subst}
use Rattle.relation.specs.Relation.{Row, Rows}
use Rattle.relation.proofs.Holding.{row_sound}
use Rattle.automaton.proofs.Entering.{turned_entered}
use Rattle.automaton.proofs.silent_back.Goals as goal

pub returns-then-few-le16 : goal.returns-then-few-le16
returns-then-few-le16 c = λ p k.
    let t = c.transpose_few.ensures in
    turned_entered p _ _ _ t.size k (λ q m x. (row_sound _ _ t q m x).0)
    (λ q m l i x. (t.each q l).whole m (x, c.bound-few.ensures.1 m i))

pub returns : goal.returns
returns c = λ p k.
    let silent = c.args.silent.now in
    let t = subst (λ (l : List ℕ). Rows l (λ q m. Row silent m q)) (sym c.copy_from_slice.ensures.after)
    c.transpose.ensures in
    turned_entered p _ _ _ t.size k (λ q m x. row_sound _ _ t q m x) (λ q m l i x. (t.each q l).whole m x)
