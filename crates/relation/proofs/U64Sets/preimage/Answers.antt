use Rattle.std.proofs.Common.{ℕ, ◌+◌, ◌-◌, ◌*◌, ◌<◌, ◌≤◌, arith}
use Rattle.stateset.specs.Set.{Is}
use Rattle.relation.specs.Relation.{Row, Preimage}
use Rattle.relation.proofs.Words.{or_is, moved_is}
use Rattle.relation.proofs.Falling.{from_start, from_turn}
use Rattle.relation.proofs.U64Sets.preimage.Goals as goal

-- both of a pair are below `2 pairs`
below : (P : ℕ → Type 0) (n pairs r : ℕ) → n + 2 ≤ 2 * pairs → Is r (λ d. (d < 2) × P (n + d)) → Is r (λ d. (d < 2) × ((n + d < 2 * pairs) × P (n + d)))
below P n pairs r l x =
    record { sound = λ d i. let m = x.sound d i in (m.0, (omega (arith, m.0), m.1)); whole = λ d m. x.whole d (m.0, m.1.1) }

pub loop-p-init : goal.loop-p-init
loop-p-init c = from_start _ _ (λ x m. m.0)

pub loop-p-preserved : goal.loop-p-preserved
loop-p-preserved c =
    let l = c.loop-p in
    let n = 2 * (l.p - 1) in
    from_turn _ 2 n (2 * l.p) l.r _ (omega arith) (omega arith) l.invariant
    (or_is _ _ (moved_is 2 l.r) (below (Preimage (Row c.args.rows.now) c.args.self) n c.args.steps c.pair.result (omega arith) c.pair.ensures))
