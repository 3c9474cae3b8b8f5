use Rattle.std.proofs.Common.{List, ℕ, ◌∙◌, ap, subst, take}
use Rattle.layout.specs.Layout.{Stored}
use Rattle.layout.proofs.Bytes.{number_front}
use Rattle.layout.proofs.store_number.Goals as goal

pub returns : goal.returns
returns c =
    let a = c.args in
    subst (λ (l : List ℕ). Stored a.bytes.now a.at l c.store_bytes.new.bytes)
    (ap (take a.n) c.to_le_bytes-all.ensures ∙ number_front a.n a.number c.requires.0) c.store_bytes.ensures
