-- What decoding answered, and the header's bytes.
use Rattle.gateway.specs.Interface.{Decode}
use Rattle.gateway.proofs.Entries.{decode_refused, decode_accepted}
use Rattle.gateway.proofs.opacity_decode.Goals as goal

pub returns-then-header-ne-HEADER_SIZE : goal.returns-then-header-ne-HEADER_SIZE
returns-then-header-ne-HEADER_SIZE c = Decode.size c.if-header-ne-HEADER_SIZE.true

pub returns-in-Err : goal.returns-in-Err
returns-in-Err c =
    let a = c.args in
    decode_refused a.encoding.now a.table.now a.header.now _ c.decode-decoded.result.header c.decode-decoded.result.answer
    c.if-header-ne-HEADER_SIZE.false c.decode-decoded.ensures c.in-Err.refused _ c.in-Err.is c.number.ensures

pub returns-in-Ok : goal.returns-in-Ok
returns-in-Ok c =
    let a = c.args in
    decode_accepted a.encoding.now a.table.now a.header.now _ c.decode-decoded.result.header c.decode-decoded.result.answer
    c.if-header-ne-HEADER_SIZE.false c.decode-decoded.ensures _ c.in-Ok.is c.write_header.ensures
