use Rattle.std.proofs.Common.{◌≡◌, length, refl, sym, ◌∙◌, arith, rules}
use Rattle.layout.specs.Sizes.{most_pending}
use Rattle.layout.specs.Layout.{EnforcerSized}
use Rattle.layout.proofs.Stores.{then, whole}
use Rattle.layout.proofs.Inverse.{estimator_length, enforcer_length}
use Rattle.layout.proofs.write_enforcer.Goals as goal

pub returns : goal.returns
returns c =
    let e = c.args.enforcer in
    let wrote = c.write_estimator.ensures in
    let pending : length e.pending ≡ most_pending = search rules in
    let waits : length e.waits ≡ most_pending = search rules in
    let sized : EnforcerSized e = record { estimator = wrote.0; pending = pending; waits = waits } in (
      sized,
      whole
          (then wrote.1 (omega (arith, estimator_length e.estimator wrote.0))
          (then (rw c.notion_byte.ensures at c.put.ensures) refl
          (then c.put-2.ensures refl (then c.store_bytes.ensures (omega arith) c.store_bytes-2.ensures))))
          (enforcer_length e sized ∙ sym c.requires),
    )
