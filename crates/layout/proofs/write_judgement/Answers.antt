use Rattle.std.proofs.Common.{refl, sym}
use Rattle.layout.proofs.Stores.{then, whole}
use Rattle.layout.proofs.write_judgement.Goals as goal

pub returns : goal.returns
returns c =
    whole
    (then c.store_verdicts.ensures refl
    (then c.store_verdicts-2.ensures refl
    (then c.store_verdicts-3.ensures refl (then c.store_verdicts-4.ensures refl c.put.ensures))))
    (sym c.requires)
