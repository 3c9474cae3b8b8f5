use Rattle.std.proofs.Common.{sym, ◌∙◌}
use Rattle.layout.specs.Sizes.{word_size}
use Rattle.layout.proofs.Bytes.{bytes_length}
use Rattle.layout.proofs.Stores.{whole}
use Rattle.layout.proofs.write_number.Goals as goal

pub returns : goal.returns
returns c =
    whole c.store_number.ensures (bytes_length word_size c.args.number ∙ sym c.requires)
