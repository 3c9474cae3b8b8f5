-- What the first pass says, and what the second read.
use Rattle.std.proofs.Common.{ℕ, replicate, sym, ap, ◌∙◌}
use Rattle.encoding.proofs.Ended.{encoding_in}
use Rattle.decoding.specs.Decoding.{Decoding}
use Rattle.decoding.proofs.Promise.{refuses, accepts}
use Rattle.decoding.proofs.decode.Goals as goal

pub returns-then-table-ne2048 : goal.returns-then-table-ne2048
returns-then-table-ne2048 c = refuses _ _ _ c.refused.ensures (Decoding.malformed c.if-table-ne2048.true)

pub read_bytes-header-requires : goal.read_bytes-header-requires
read_bytes-header-requires c =
    let x = encoding_in c.args.bytes.now (sym c.in-Ok.ensures) in
    (x.front, x.ends, c.fill.ensures.after (λ y e. e) ∙ ap (λ (n : ℕ). replicate n 0) c.if-table-ne2048.false)

pub returns-in-Err : goal.returns-in-Err
returns-in-Err c =
    refuses _ _ _ c.refused-in-Err.ensures (Decoding.refused c.if-table-ne2048.false _ (sym c.in-Err.ensures))

pub returns-in-Ok : goal.returns-in-Ok
returns-in-Ok c =
    accepts _ _ _ c.in-Ok.f _ c.if-table-ne2048.false (sym c.in-Ok.ensures) c.read_bytes-header.ensures.1 c.read_bytes-header.ensures.0
