use Rattle.std.proofs.Common.{length}
use Rattle.gateway_calls.proofs.set.Given as goal

-- Each element takes something off the line.
abbrev pub decreases-loop-text : goal.decreases-loop-text
decreases-loop-text g l = length l.text.rest.now
