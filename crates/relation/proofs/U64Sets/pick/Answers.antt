use Rattle.stateset.specs.Set.{In}
use Rattle.relation.proofs.Words.{own_is, or_is}
use Rattle.relation.proofs.U64Sets.pick.Goals as goal

pub returns : goal.returns
returns c =
    let a = c.args in
    let i : In a._q a._waves = c.requires.1.2 in
    or_is a.self a.row (own_is a.self) (record { sound = λ x k. (i, k); whole = λ x k. k.1 })
