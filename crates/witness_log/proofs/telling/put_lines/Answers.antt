use Rattle.std.proofs.Common.{◌+◌, arith}
use Rattle.witness_log.proofs.Lining.{count_small, in_reach, lines_none, lines_more, lines_all}
use Rattle.witness_log.proofs.telling.put_lines.Goals as goal

pub loop-k-init : goal.loop-k-init
loop-k-init c = (omega arith, lines_none _ _ _ _ _ _)

pub put_line-next-requires : goal.put_line-next-requires
put_line-next-requires c =
    let l = c.loop-k in (
      c.requires.0,
      in_reach _ _ l.k c.requires.0.1 c.requires.1 (omega arith),
      omega (arith, l.invariant.1.wrote.limit, l.invariant.1.wrote.size, count_small _ _ _ c.requires.0),
    )

pub loop-k-preserved : goal.loop-k-preserved
loop-k-preserved c = (omega arith, lines_more _ _ _ _ _ _ _ _ _ _ _ c.loop-k.invariant.1 c.put_line-next.ensures)

-- the last step ends the loop
pub returns-2 : goal.returns-2
returns-2 c =
    lines_all _ _ _ _ (c.loop-k.k + 1) _ _ _ _ _ (omega arith) (lines_more _ _ _ _ _ _ _ _ _ _ _ c.loop-k.invariant.1 c.put_line-next.ensures)
