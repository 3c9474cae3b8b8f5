-- as of one set alone (`U64Sets/preimage`), for each of the four
use Rattle.std.proofs.Common.{ℕ, ◌<◌}
use Rattle.relation.specs.Relation.{set_at}
use Rattle.relation.proofs.Falling.{From, Leading}
use Rattle.relation.proofs.StateSetsSets.preimage.Given as goal

abbrev pub invariant-loop-q : goal.invariant-loop-q
invariant-loop-q l = (i : ℕ) → i < 4 → From (Leading l.rows l.steps (set_at l.self i)) l.q (set_at l.r i)
