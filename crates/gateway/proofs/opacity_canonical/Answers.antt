use Rattle.gateway.specs.Interface.{CanonicalCall}
use Rattle.gateway.proofs.Entries.{canonical_refused, canonical_written}
use Rattle.gateway.proofs.opacity_canonical.Goals as goal

pub returns-then-size-ne-WRITTEN_SIZE : goal.returns-then-size-ne-WRITTEN_SIZE
returns-then-size-ne-WRITTEN_SIZE c = CanonicalCall.size c.if-size-ne-WRITTEN_SIZE.true

pub returns-in-Err : goal.returns-in-Err
returns-in-Err c =
    let a = c.args in
    canonical_refused a.encoding.now a.output.now a.size.now _ c.canonical.result c.if-size-ne-WRITTEN_SIZE.false c.canonical.ensures
    c.in-Err.refusal _ c.in-Err.is c.number.ensures

pub returns-in-Ok : goal.returns-in-Ok
returns-in-Ok c =
    let a = c.args in
    canonical_written a.encoding.now a.output.now a.size.now _ c.canonical.result c.if-size-ne-WRITTEN_SIZE.false c.canonical.ensures
    c.in-Ok.written _ c.in-Ok.is c.write_number.ensures
