use Rattle.std.proofs.Common.{arith, rules, subst, sym, ◌-◌, ◌∙◌}
use Rattle.streams.specs.Following.{stopped, ended, failed}
use Rattle.streams.proofs.Feeding.{few_brought, goes_brought, rest_of, so_more, fed_by}
use Rattle.streams.proofs.following.read_on.Goals as goal

pub loop-header-preserved : goal.loop-header-preserved
loop-header-preserved g c =
    let so = c.loop-header.invariant in
    let n = c.in-Bytes.n in
    let Goes = g.F.Follower.Goes c.args.table.now c.args.header in
    let some = few_brought {Goes = Goes} n c.in-Bytes.is c.turn-one.ensures in
    let goes = goes_brought {Goes = Goes} n c.in-Bytes.is c.turn-one.ensures in
    let input = c.turn-one.new.input in (
      search rules,
      omega (arith, so.1),
      g.met.F.Follower.onward c.args.table.now c.args.header c.loop-header.now c.turn-one.result.follower _ (c.loop-header.rest - n) goes
          (subst (g.F.Follower.Takes c.loop-header.now) (sym (rest_of input n c.loop-header.rest some)) so.2),
      so_more {Goes = Goes} input n so.3 (sym c.is_done.ensures ∙ c.loop-header-test.true) some goes,
    )

pub returns-in-End-clause-fed : goal.returns-in-End-clause-fed
returns-in-End-clause-fed g c = fed_by c.loop-header.invariant.3 (ended (sym c.is_done.ensures ∙ c.loop-header-test.true))

pub returns-in-Failed-clause-fed : goal.returns-in-Failed-clause-fed
returns-in-Failed-clause-fed g c = fed_by c.loop-header.invariant.3 (failed (sym c.is_done.ensures ∙ c.loop-header-test.true))

pub returns-clause-fed : goal.returns-clause-fed
returns-clause-fed g c = fed_by c.loop-header.invariant.3 (stopped (sym c.is_done.ensures ∙ c.loop-header-test.false))
