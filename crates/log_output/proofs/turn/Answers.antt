use Rattle.std.proofs.Common.{◌≡◌, rules}
use Rattle.log_output.specs.declared.Status.TheVariants.{Going}
use Rattle.log_output.specs.Feeding.{unwritten}
use Rattle.log_output.proofs.ReadingOn.{taken_turn}
use Rattle.log_output.proofs.turn.Goals as goal

pub returns-then-ne : goal.returns-then-ne
returns-then-ne g c =
    let stopped : c.written_out-shown.result.status ≡ Going → ⊥ = search rules in
    unwritten c.written_out-shown.ensures stopped

pub returns : goal.returns
returns g c =
    let going : c.written_out-shown.result.status ≡ Going = search rules in
    taken_turn c.taken_in.ensures c.written_out-shown.ensures going c.fetch-fetched.ensures
