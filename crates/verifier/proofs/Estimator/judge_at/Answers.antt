-- For an arbitrary number.
use Rattle.std.proofs.Common.{refl, sym, subst, arith}
use Rattle.opacity.specs.declared.Secret.{Secret}
use Rattle.verifier.specs.Inner.{StrongGiven}
use Rattle.verifier.proofs.Judging.{judged_of}
use Rattle.opacity.proofs.Numbering.{how_many, how_many_most}
use Rattle.verifier.proofs.Estimator.judge_at.Goals as goal

pub returns-then-self-i : goal.returns-then-self-i
returns-then-self-i c =
    record {
      given = λ g. absurd (omega (arith, c.if-self-i.true, how_many_most c.args.look_back.header.now c.args.self.further));
      other = λ o. refl;
    }

pub judge-requires : goal.judge-requires
judge-requires c = (
  c.requires.0.ready,
  c.requires.1,
  subst (λ (x : Secret). StrongGiven c.args.look_back c.args.asked x c.args.found) (sym c.secret_at-secret.ensures)
      (c.requires.2 (omega (arith, c.if-self-i.false))),
)

pub returns : goal.returns
returns c =
    let h = c.args.look_back.header.now in
    record {
      given = λ g. judged_of _ h _ _ _ _ c.args.asked c.judge.result c.requires.0.remembered_is c.secret_at-secret.ensures c.judge.ensures;
      other = λ o. absurd (omega (arith, o, c.if-self-i.false, how_many h c.args.self.further c.requires.0.limits.allowed.few));
    }
