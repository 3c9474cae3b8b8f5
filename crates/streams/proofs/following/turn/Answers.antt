use Rattle.streams.specs.Following.{no_more, not_fetched}
use Rattle.streams.proofs.Feeding.{some_brought, turn_brought}
use Rattle.streams.proofs.following.turn.Goals as goal

pub returns-in-Bytes : goal.returns-in-Bytes
returns-in-Bytes g c =
    turn_brought {Goes = g.F.Follower.Goes c.args.table.now c.args.header} c.fetch.new.input c.in-Bytes.n c.args.left
    (some_brought c.in-Bytes.is c.fetch.ensures) c.follow.ensures

pub returns-in-End : goal.returns-in-End
returns-in-End g c = no_more

pub returns-in-Failed : goal.returns-in-Failed
returns-in-Failed g c = not_fetched
