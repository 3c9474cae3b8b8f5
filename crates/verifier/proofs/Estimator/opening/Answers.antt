-- The estimate of the initial state, and the verdicts of the look back from it.
use Rattle.automaton.proofs.Entering.{known_none}
use Rattle.verifier.proofs.Growing.{grown_limits, initial_inside}
use Rattle.verifier.proofs.Judging.{opened_of}
use Rattle.verifier.proofs.Estimator.opening.Goals as goal

pub estimate_from-estimate-requires : goal.estimate_from-estimate-requires
estimate_from-estimate-requires c = let o = c.requires.0 in (o.words, o.start, known_none _ _)

pub assess-requires : goal.assess-requires
assess-requires c =
    let so = c.requires.0 in
    let g = c.requires.1 in
    let e = c.estimate_from-estimate.ensures in
    record {
      well_formed = so;
      limits = grown_limits _ _ _ _ g so.symbols_small;
      sets_are = c.by_symbol.ensures _;
      near = record { closed = e.closed; inside = initial_inside _ _ _ _ g e.new };
      reach = e.reach;
    }

pub returns : goal.returns
returns c = opened_of _ _ _ _ _ _ _ _ c.requires.1 c.estimate_from-estimate.ensures c.assess.ensures
