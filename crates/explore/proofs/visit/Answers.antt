-- `explore::visit` meets its contract: what is known before a turn is known after it, and at the end every symbol was tried on each configuration.
use Rattle.std.proofs.Common.{refl, ◌∙◌, ◌≤◌, ◌<◌, length, arith}
use Rattle.std.proofs.Math.ListN.{length-set}
use Rattle.stateset.proofs.Decides.{holds, fails}
use Rattle.explore.specs.Explorations.{budget_spent, explored_all}
use Rattle.explore.proofs.Looking.{stored_before, stored_behind, stored_more}
use Rattle.explore.proofs.Progressing.{progress_start, progress_next, progress_spent, progress_number, progress_weak, progress_strong}
use Rattle.explore.proofs.visit.Goals as goal
use Rattle.explore.proofs.visit.Goals.{then-not-was_found+else-count-most, else-not-was_found}

pub turns-init : goal.turns-init
turns-init c = record {
  some = omega arith;
  few = omega (arith, c.requires.2);
  most = c.requires.3;
  within = omega arith;
  room = refl;
  progress = progress_start _ _ _ _ _ _ c.requires.4;
}

-- one more than the budget allows
pub returns-then-count-most : goal.returns-then-count-most
returns-then-count-most c =
    let l = c.turns in
    let i = l.invariant in
    let try = c.attempt-tried in
    let put = stored_more l.found l.count try.result.next (omega (arith, i.few, i.most, i.room)) (fails c.was_found.result c.if-not-was_found.true c.was_found.ensures) in
    let more = progress_next _ _ _ l.found l.count l.weak l.strong l.turn c.turns-test.true i.progress try.result.next try.result.weak try.result.strong _ _ _ _ c.max-weak.ensures c.max-strong.ensures try.ensures put in
    budget_spent c.requires.0 c.requires.1 (progress_spent _ _ _ _ _ _ _ _ more _ (omega (arith, c.if-count-most.true)))

pub turns-preserved : goal.turns-preserved
turns-preserved c =
    let l = c.turns in
    let i = l.invariant in
    let try = c.attempt-tried in
    let few : l.count ≤ length l.found = omega (arith, i.few, i.most, i.room) in
    elim c.if-not-was_found.branch [
      | then-not-was_found+else-count-most w ↦
          let room : l.count < length l.found = omega (arith, i.few, i.most, i.room, w.if-count-most.false) in
          let put = stored_behind l.found l.count try.result.next few (fails c.was_found.result w.if-not-was_found.true c.was_found.ensures) room in
          rw (w.found-is, w.count-is) (record {
            some = omega arith;
            few = omega (arith, i.few, w.if-count-most.false);
            most = i.most;
            within = omega (arith, c.turns-test.true);
            room = length-set l.found _ _ ∙ i.room;
            progress = progress_next _ _ _ l.found l.count l.weak l.strong l.turn c.turns-test.true i.progress try.result.next try.result.weak try.result.strong _ _ _ _ c.max-weak.ensures c.max-strong.ensures try.ensures put;
          })
      | else-not-was_found w ↦
          let put = stored_before l.found l.count try.result.next few (holds c.was_found.result w.if-not-was_found.false c.was_found.ensures) in
          rw (w.found-is, w.count-is) (record {
            some = i.some;
            few = i.few;
            most = i.most;
            within = omega (arith, c.turns-test.true);
            room = i.room;
            progress = progress_next _ _ _ l.found l.count l.weak l.strong l.turn c.turns-test.true i.progress try.result.next try.result.weak try.result.strong _ _ _ _ c.max-weak.ensures c.max-strong.ensures try.ensures put;
          })
    ]

pub returns : goal.returns
returns c =
    let i = c.turns.invariant in
    let x = i.progress in
    let small = c.requires.0.symbols_small in
    explored_all (record {
      well_formed = c.requires.0;
      allowed = c.requires.1;
      few = i.few;
      number_is = progress_number _ _ _ _ _ _ _ _ x small (omega (arith, c.turns-test.false));
      weak_is = progress_weak _ _ _ _ _ _ _ _ x small (omega (arith, c.turns-test.false));
      strong_is = progress_strong _ _ _ _ _ _ _ _ x small (omega (arith, c.turns-test.false));
    })
