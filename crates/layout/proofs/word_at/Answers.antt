use Rattle.std.proofs.Common.{◌∙◌, ap}
use Rattle.std.specs.Int.{from_le_bytes, w64}
use Rattle.layout.proofs.Bytes.{word_read}
use Rattle.layout.proofs.word_at.Goals as goal

pub returns : goal.returns
returns c = c.from_le_bytes.ensures ∙ ap (from_le_bytes w64) c.array_at.ensures ∙ word_read c.args.bytes.now c.args.at
