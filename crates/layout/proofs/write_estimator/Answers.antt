use Rattle.std.proofs.Common.{◌≡◌, length, refl, arith, rules}
use Rattle.layout.specs.Sizes.{most_remembered, entry_count}
use Rattle.layout.proofs.Bytes.{words_bytes_length}
use Rattle.layout.proofs.Stores.{then}
use Rattle.layout.proofs.write_estimator.Goals as goal

pub returns : goal.returns
returns c =
    let e = c.args.estimator in
    let symbols : length e.symbols ≡ most_remembered = search rules in
    let entries : length e.entries ≡ entry_count = search rules in (
      record { symbols = symbols; entries = entries; words = c.store_words.ensures.0; further = c.store_further.ensures.0 },
      then c.put.ensures refl
          (then c.store_bytes.ensures (omega arith)
          (then c.store_words.ensures.1 (omega (arith, words_bytes_length e.entries)) c.store_further.ensures.1)),
    )
