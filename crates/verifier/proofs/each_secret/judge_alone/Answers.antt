-- Each notion that is asked for by its own look back, over all that is remembered, which is no more than the own K.
use Rattle.std.proofs.Common.{◌≡◌, min, refl, arith}
use Rattle.opacity.specs.Secrets.{own}
use Rattle.verifier.proofs.Judging.{not_both, judged_both, found_last}
use Rattle.verifier.proofs.each_secret.judge_alone.Goals as goal
use Rattle.verifier.proofs.each_secret.judge_alone.Goals.{then-asked, else-asked}

pub returns-then-asked-2 : goal.returns-then-asked-2
returns-then-asked-2 c =
    let b = c.args.look_back in
    let all : b.remembered.now.count ≡ min b.header.now.k b.remembered.now.count = omega (arith, c.requires.2) in
    judged_both _ b.header.now b.remembered.now (own b.header.now) c.args.asked _ _
    (record {
      found = λ asks. elim c.if-asked.branch [
        | then-asked w ↦ rw w.weak-is (found_last all w.weak_verdict-weak.ensures)
        | else-asked w ↦ absurd (not_both _ asks w.if-asked.false)
      ];
      silent = λ not. elim c.if-asked.branch [ then-asked w ↦ absurd (not w.if-asked.true) | else-asked w ↦ w.weak-is ];
    })
    (record { found = λ asks. found_last all c.strong_verdict-strong.ensures; silent = λ not. absurd (not c.if-asked-2.true) })

pub returns-else-asked-2 : goal.returns-else-asked-2
returns-else-asked-2 c =
    let b = c.args.look_back in
    let all : b.remembered.now.count ≡ min b.header.now.k b.remembered.now.count = omega (arith, c.requires.2) in
    judged_both _ b.header.now b.remembered.now (own b.header.now) c.args.asked _ _
    (record {
      found = λ asks. elim c.if-asked.branch [
        | then-asked w ↦ rw w.weak-is (found_last all w.weak_verdict-weak.ensures)
        | else-asked w ↦ absurd (not_both _ asks w.if-asked.false)
      ];
      silent = λ not. elim c.if-asked.branch [ then-asked w ↦ absurd (not w.if-asked.true) | else-asked w ↦ w.weak-is ];
    })
    (record { found = λ asks. absurd (not_both _ asks c.if-asked-2.false); silent = λ not. refl })
