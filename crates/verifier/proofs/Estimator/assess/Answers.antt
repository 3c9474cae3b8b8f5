-- The look back from the estimate works on what was explored.
use Rattle.std.proofs.Common.{refl, arith}
use Rattle.opacity.proofs.Numbering.{look_back_small}
use Rattle.verifier.proofs.Estimator.assess.Goals as goal

pub judge_all-requires : goal.judge_all-requires
judge_all-requires c =
    let x = c.requires in
    record {
      limits = x.limits;
      remembered_is = c.remembered_of.ensures;
      ready = rw c.remembered_of.ensures record {
        words = x.well_formed.words;
        few = omega (arith, x.limits.few, look_back_small c.args.header c.args.self.further x.well_formed.back x.limits.allowed);
        looks = record {
          table_is = refl;
          start = x.well_formed.start;
          symbols_small = x.well_formed.symbols_small;
          sets_are = x.sets_are;
          near = x.near;
          back_are = λ some. c.backward_rows.ensures some _ x.near.closed;
        };
      };
      begins = rw c.remembered_of.ensures x.reach;
    }
