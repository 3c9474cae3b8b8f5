use Rattle.std.proofs.Common.{List, ℕ, ◌<◌, subst, sym, arith}
use Rattle.stateset.specs.Set.{Is}
use Rattle.relation.specs.Relation.{Preimage}
use Rattle.automaton.specs.Reaching.{Listed}
use Rattle.automaton.proofs.Entering.{leaves_more}
use Rattle.automaton.proofs.backward_reach.Goals as goal

pub returns : goal.returns
returns g c =
    let s = g.S.Sets in
    let a = c.args in
    let below = c.bound-below in
    let into = c.preimage_by-into in
    let far = s.far c.steps.result in
    s.each_of _ (λ i h p states rest symbol same shows b sub T.
    leaves_more p _ states _ symbol _ _ _ _ _ rest shows b sub
    (λ q m. omega (arith, below.ensures.1 q (c.any.ensures.whole q (i, h, m)), c.steps.ensures.0)) T
    (subst (λ (t : List ℕ). Is (s.at into.result i) (λ q. (q < far) × Preimage (Listed t a.events) (s.at a.then i) q)) (sym same)
    (s.of_each _ into.ensures i h))
    (s.of_each _ c.closure.ensures i h))
