-- Each secret that is given with the states that are not in it.
use Rattle.std.proofs.Common.{◌≡◌, ◌^◌, ◌≤◌, ◌<◌}
use Rattle.std.specs.Int.Bits.{bit_and}
use Rattle.stateset.specs.Set.{complement}
use Rattle.relation.specs.Relation.{set_at}
use Rattle.relation.specs.declared.StateSets.{StateSets}
use Rattle.relation.proofs.FourSets.{four}
use Rattle.opacity.specs.Secrets.{secrets_of, secret_at}
use Rattle.verifier.proofs.Judging.{not_both}
use borrow.Author.Tests.{not-true, not-false}
use Rattle.verifier.proofs.several.strong_each.Goals as goal

pub returns-then-not-asked : goal.returns-then-not-asked
returns-then-not-asked c i h given =
    record { found = λ asks. absurd (not_both _ asks (not-true _ c.if-not-asked.true)); silent = λ not. c.none_found.ensures i h }

pub returns : goal.returns
returns c i h given =
    let cs = secrets_of c.args.look_back.header.now c.args.further in
    let clear : StateSets =
    record {
      own = c.outside_secret.result;
      first = c.outside_secret-2.result;
      second = c.outside_secret-3.result;
      third = c.outside_secret-4.result;
    } in
    let x = four (λ j. j ≤ c.args.further.count → ((secret_at cs j).states < 2 ^ 64)
    × (set_at clear j ≡ bit_and c.args.look_back.states (complement (secret_at cs j).states)))
    c.outside_secret.ensures.1 c.outside_secret-2.ensures.1
    c.outside_secret-3.ensures.1 c.outside_secret-4.ensures.1 i h given in
    record {
      found = λ asks. c.strong_verdicts.ensures i (secret_at cs i).states h x.0 x.1;
      silent = λ not. absurd (not (not-false _ c.if-not-asked.false));
    }
