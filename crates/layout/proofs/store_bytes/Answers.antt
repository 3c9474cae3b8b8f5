use Rattle.layout.proofs.Stores.{stored_part}
use Rattle.layout.proofs.store_bytes.Goals as goal

pub returns : goal.returns
returns c = stored_part c.args.bytes.now c.args.at c.args.array.now _ c.requires c.copy_from_slice.ensures.after
