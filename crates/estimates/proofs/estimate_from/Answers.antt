-- `estimates::estimate_from` meets its contract: rows, closure and number of one entry set.
use Rattle.std.proofs.Common.{arith}
use Rattle.stateset.proofs.Bits.{or_l}
use Rattle.automaton.proofs.Entering.{known_more}
use Rattle.estimates.proofs.Estimating.{estimated}
use Rattle.estimates.proofs.estimate_from.Goals as goal

pub silent_rows-reach-requires : goal.silent_rows-reach-requires
silent_rows-reach-requires c =
    (c.requires.0, known_more _ _ c.args.from _ _ (λ q i. or_l q c.args.from _ i) c.requires.2)

pub returns : goal.returns
returns c =
    estimated _ c.args.from c.args.entry _ c.silent_rows-reach.result c.unobservable_reach-states.result c.size.result
    c.requires.1 c.ranges.entry.fits
    (omega arith) c.silent_rows-reach.ensures c.unobservable_reach-states.ensures.0
    (λ trace closed sub E. c.unobservable_reach-states.ensures.1 _ trace c.requires.1 closed sub E) c.size.ensures
