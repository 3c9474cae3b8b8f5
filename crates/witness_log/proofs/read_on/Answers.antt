use Rattle.std.proofs.Common.{arith}
use Rattle.streams.proofs.Feeding.{feeding_read}
use Rattle.witness_log.specs.Printing.{put, not_read}
use Rattle.witness_log.proofs.FollowingOn.{feeding_on}
use Rattle.witness_log.proofs.PrintedLog.{after_usable}
use Rattle.witness_log.proofs.read_on.Goals as goal

pub returns-then-eq : goal.returns-then-eq
returns-then-eq g c = not_read

pub put_output-requires : goal.put_output-requires
put_output-requires g c =
    let ready = c.requires in
    let on = feeding_on _ _ c.read_on-rest.ensures.fed.feeding in
    let a = on.exact ready.well_formed ready.bytes ready.after in
    (after_usable ready.well_formed a, a.alone, ready.room)

pub returns : goal.returns
returns g c =
    let fed = c.read_on-rest.ensures.fed in
    put fed.bytes (omega (arith, feeding_read fed.feeding)) (feeding_on _ _ fed.feeding) c.put_output.ensures
