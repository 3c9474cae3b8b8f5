use Rattle.std.proofs.Common.{refl, sym, ◌∙◌, arith}
use Rattle.layout.specs.Sizes.{explored_size}
use Rattle.layout.proofs.Bytes.{bytes_length}
use Rattle.layout.proofs.Stores.{then, whole}
use Rattle.layout.proofs.Inverse.{exploration_length}
use Rattle.layout.proofs.write_exploration.Goals as goal

pub returns : goal.returns
returns c =
    let e = c.args.exploration in
    whole
    (then c.store_number.ensures (omega (arith, bytes_length explored_size e.number))
    (then c.put.ensures refl c.put-2.ensures))
    (exploration_length e ∙ sym c.requires)
