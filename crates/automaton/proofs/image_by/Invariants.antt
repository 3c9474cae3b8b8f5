-- r joins the images by the events that are no longer in `left`
use Rattle.std.proofs.Common.{◌<◌, ◌^◌}
use Rattle.relation.specs.Relation.{Row, Image}
use Rattle.relation.proofs.Joining.{Joined}
use Rattle.automaton.proofs.Joining.{words_of}
use Rattle.automaton.proofs.image_by.Given as goal

abbrev pub invariant-loop-left : goal.invariant-loop-left
invariant-loop-left l = (l.left < 2 ^ 64) × Joined (λ e. Image (Row (words_of l.table e)) l.set) l.events l.left l.r

abbrev pub decreases-loop-left : goal.decreases-loop-left
decreases-loop-left l = l.left
