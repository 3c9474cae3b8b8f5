use Rattle.std.proofs.Common.{arith}
use mathlib.Core.Logic.{inl, ⊎_elim}
use Rattle.stateset.specs.Set.{In}
use Rattle.stateset.proofs.Bits.{bit_lt, in_test}
use Rattle.relation.proofs.Words.{own_is, or_is}
use Rattle.relation.proofs.picked.Goals as goal

pub returns-then-wave-q-ne0 : goal.returns-then-wave-q-ne0
returns-then-wave-q-ne0 c =
    let s = c.args in
    let i : In s.q s.wave = omega (arith, c.if-wave-q-ne0.true, in_test s.q s.wave, bit_lt s.q s.wave) in
    or_is s.r s.row (own_is s.r) (record { sound = λ x k. (i, k); whole = λ x k. k.1 })

pub returns : goal.returns
returns c =
    let s = c.args in
    let n : In s.q s.wave → ⊥ = λ i. omega (arith, c.if-wave-q-ne0.false, in_test s.q s.wave) in
    record { sound = λ x j. inl j; whole = λ x m. ⊎_elim (λ k. k) (λ k. absurd (n k.0)) m }
