use Rattle.std.proofs.Common.{refl, sym, ◌∙◌}
use Rattle.layout.proofs.Stores.{then, whole}
use Rattle.layout.proofs.Inverse.{run_length}
use Rattle.layout.proofs.write_run.Goals as goal

pub returns : goal.returns
returns c =
    whole (then c.put.ensures refl c.store_number.ensures)
    (run_length c.args.start c.args.pairs ∙ sym c.requires)
