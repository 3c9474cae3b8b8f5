-- The own secret alone, or each with what they share.
use Rattle.std.proofs.Common.{◌≡◌, refl, ap, arith}
use Rattle.estimates.specs.declared.Remembered.{Remembered}
use Rattle.opacity.specs.Secrets.{own}
use Rattle.opacity.proofs.Numbering.{back_none}
use Rattle.verifier.proofs.Judging.{judged_alone, judged_of}
use Rattle.verifier.proofs.Estimator.judge_all.Goals as goal

pub judge_alone-own-requires : goal.judge_alone-own-requires
judge_alone-own-requires c =
    let x = c.requires in
    let h = c.args.look_back.header.now in
    let alone : c.args.self.further.count ≡ 0 = omega (arith, c.if-self-ne0.false) in
    let same = ap (λ (r : Remembered). r.count) x.remembered_is in
    (x.ready, x.begins, omega (arith, same, x.limits.few, back_none h c.args.self.further alone))

pub returns : goal.returns
returns c =
    let h = c.args.look_back.header.now in
    judged_alone _ h c.args.self c.args.asked _ (omega (arith, c.if-self-ne0.false))
    (judged_of _ h _ _ _ (own h) c.args.asked _ c.requires.remembered_is refl c.judge_alone-own.ensures)
