use Rattle.std.proofs.Common.{◌≡◌, length, refl, sym, ◌∙◌, arith, rules}
use Rattle.layout.specs.Sizes.{word_size, half_size, event_count}
use Rattle.layout.proofs.Bytes.{bytes_length}
use Rattle.layout.proofs.Stores.{then, whole}
use Rattle.layout.proofs.Inverse.{header_length}
use Rattle.layout.proofs.write_header.Goals as goal

-- five stores, one behind the other
pub returns : goal.returns
returns c =
    let h = c.args.header in
    let sized : length h.symbols ≡ event_count = search rules in
    whole
    (then c.put.ensures refl
    (then c.put-2.ensures refl
    (then c.store_number.ensures (omega (arith, bytes_length word_size h.secret))
    (then c.store_number-2.ensures (omega (arith, bytes_length half_size h.observable)) c.store_bytes.ensures))))
    (header_length h sized ∙ sym c.requires)
