use Rattle.std.proofs.Common.{ℕ, get_or, arith, rules}
use Rattle.std.specs.Int.{w64}
use mir.Val.{Fits}
use Rattle.opacity.specs.Secrets.{place_of}
use Rattle.layout.specs.Layout.{FurtherSized}
use Rattle.layout.proofs.Inverse.{place_length}
use Rattle.layout.proofs.Stores.{then}
use Rattle.layout.proofs.store_further.Goals as goal

pub returns : goal.returns
returns c =
    let f = c.args.further in
    let fits : (j : ℕ) → Fits w64 (get_or f.states j 0) = λ j. search rules in
    let sized : FurtherSized f = record { states = search rules; k = search rules; words = λ j. (fits j).fits } in (
      sized,
      then c.put.ensures (omega arith)
          (then c.store_secret.ensures (omega (arith, place_length (place_of f 0)))
          (then c.store_secret-2.ensures (omega (arith, place_length (place_of f 1))) c.store_secret-3.ensures)),
    )
