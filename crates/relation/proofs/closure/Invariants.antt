-- each of the sets is being closed (`Closing`), and less and less is missing of all of them
use Rattle.std.proofs.Common.{ℕ, ◌<◌}
use Rattle.relation.specs.Relation.{Row}
use Rattle.relation.proofs.Closing.{Closing}
use Rattle.relation.proofs.FourSets.{total}
use Rattle.relation.proofs.closure.Given as goal

abbrev pub invariant-loop-wave : goal.invariant-loop-wave
invariant-loop-wave g l =
    let s = g.S.Sets in
    (i : ℕ) → i < s.count → Closing (Row l.rows) (s.at l.allowed i) (s.at l.fn.from i) (s.at l.missing i) (s.at l.wave i)

abbrev pub decreases-loop-wave : goal.decreases-loop-wave
decreases-loop-wave g l = total (g.S.Sets.at l.missing) g.S.Sets.count
