use Rattle.std.proofs.Common.{arith}
use Rattle.witness_log.proofs.Lining.{count_small, output_put}
use Rattle.witness_log.proofs.telling.put_output.Goals as goal

pub put_lines-strong-requires : goal.put_lines-strong-requires
put_lines-strong-requires c =
    let weak = c.put_lines-weak.ensures in
    (c.requires.0, c.requires.1, omega (arith, weak.wrote.limit, weak.wrote.size, count_small _ _ _ c.requires.0, c.requires.2))

pub returns : goal.returns
returns c =
    output_put _ _ c.args.followed _ _ _ _ _ c.accepted_end.result _ _ c.requires.0 c.requires.2 c.put_lines-weak.ensures
    c.put_lines-strong.ensures c.accepted_end.ensures c.place.ensures
