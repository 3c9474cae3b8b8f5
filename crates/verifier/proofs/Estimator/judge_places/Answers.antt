-- Each place by its own call.
use Rattle.std.proofs.Common.{arith}
use Rattle.verifier.proofs.Judging.{judged_four}
use Rattle.verifier.proofs.Estimator.judge_places.Goals as goal

pub judge_at-requires : goal.judge_at-requires
judge_at-requires c = let x = c.requires in (x.0, x.1, x.2 0 (omega arith))

pub judge_at-requires-2 : goal.judge_at-requires-2
judge_at-requires-2 c = let x = c.requires in (x.0, x.1, x.2 1 (omega arith))

pub judge_at-requires-3 : goal.judge_at-requires-3
judge_at-requires-3 c = let x = c.requires in (x.0, x.1, x.2 2 (omega arith))

pub judge_at-requires-4 : goal.judge_at-requires-4
judge_at-requires-4 c = let x = c.requires in (x.0, x.1, x.2 3 (omega arith))

pub returns : goal.returns
returns c =
    judged_four _ _ _ _ _ _ _ _ c.requires.0.limits.allowed.few c.judge_at.ensures c.judge_at-2.ensures c.judge_at-3.ensures c.judge_at-4.ensures
