-- An entry set is part of its unobservable reach.
use Rattle.std.proofs.Common.{arith}
use Rattle.std.specs.Int.Bits.{bit_and}
use Rattle.stateset.specs.Set.{complement}
use Rattle.stateset.proofs.Bits.{in_and, and_in, in_not, meet}
use Rattle.estimates.proofs.look_back.possible_states.Goals as goal

pub returns-then-some-secret-ne0 : goal.returns-then-some-secret-ne0
returns-then-some-secret-ne0 c = λ p trace start k sub E.
    let a = c.args in
    let x = meet (bit_and a.entry a.then) (complement a.secret) (omega arith) c.if-some-secret-ne0.true in
    record {
      sound = λ q i.
          let m = in_and q a.entry a.then i in
          let e = E.sound q m.0 in
          (record { run = e.run; compatible = e.compatible; ends = e.ends }, m.1);
      whole = λ all. absurd (in_not 64 x.0 a.secret c.ranges.secret.fits x.2 (all x.0 x.1));
    }

pub returns : goal.returns
returns c = λ p trace start k sub E.
    let A = c.unobservable_reach.ensures.1 p trace start k sub E in
    record {
      sound = λ q i. let m = in_and q c.unobservable_reach.result c.args.then i in (A.sound q m.0, m.1);
      whole = λ all q x. all q (and_in q c.unobservable_reach.result c.args.then (A.whole q x.0) x.1);
    }
