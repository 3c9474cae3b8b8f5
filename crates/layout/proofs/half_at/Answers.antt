use Rattle.std.proofs.Common.{◌∙◌, ap}
use Rattle.std.specs.Int.{from_le_bytes, w32}
use Rattle.layout.proofs.Bytes.{half_read}
use Rattle.layout.proofs.half_at.Goals as goal

pub returns : goal.returns
returns c = c.from_le_bytes.ensures ∙ ap (from_le_bytes w32) c.array_at.ensures ∙ half_read c.args.bytes.now c.args.at
