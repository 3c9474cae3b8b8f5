use Rattle.std.proofs.Common.{subst, sym, ◌-◌}
use Rattle.streams.proofs.Feeding.{begins, few_allowed}
use Rattle.streams.proofs.following.begin.Goals as goal

pub returns-clause-begins : goal.returns-clause-begins
returns-clause-begins g c = begins c.args.start c.follow.result c.args.events.now c.min-n.result c.min-n.ensures c.follow.ensures

pub returns-clause-takes : goal.returns-clause-takes
returns-clause-takes g c =
    let one = g.met.F.Follower in
    one.onward c.args.table.now c.args.header c.args.start c.follow.result _ (4294967295 - c.min-n.result) c.follow.ensures
    (subst (g.F.Follower.Takes c.args.start) (sym (few_allowed c.args.events.now c.min-n.result c.min-n.ensures)) c.requires)
