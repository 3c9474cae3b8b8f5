-- `estimates::entered` meets its contract: each entry set is a part of what the fold gives.
use Rattle.std.proofs.Common.{rules, ◌≡◌}
use Rattle.std.proofs.iter.runs.Made.{chains}
use Rattle.std.specs.List.{fold}
use Rattle.std.specs.Int.Bits.{bit_or}
use Rattle.estimates.proofs.Estimating.{entered_all}
use Rattle.estimates.proofs.entered.Goals as goal

pub returns : goal.returns
returns c =
    let all : c.fold.result ≡ fold bit_or 0 c.args.entries = search (rules, chains) in
    entered_all c.args.entries _ all
