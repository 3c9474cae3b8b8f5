use Rattle.std.proofs.Common.{arith}
use Rattle.layout.specs.Sizes.{word_size}
use Rattle.layout.proofs.Bytes.{bytes_length}
use Rattle.layout.proofs.Stores.{then}
use Rattle.layout.proofs.store_secret.Goals as goal

pub returns : goal.returns
returns c =
    let secret = c.args.secret in
    then c.store_number.ensures (omega (arith, bytes_length word_size secret.states)) c.put.ensures
