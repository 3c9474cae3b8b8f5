-- `opacity::look_back` meets its contract: the fold over the places that are given.
use Rattle.std.proofs.Common.{rules, ◌≡◌, min, max, length, take, ◌∙◌}
use Rattle.std.proofs.iter.runs.Made.{chains}
use Rattle.std.specs.List.{fold}
use Rattle.opacity.proofs.Numbering.{back_fold}
use Rattle.opacity.proofs.look_back.Goals as goal

pub returns : goal.returns
returns c =
    let size : length c.args.further.k ≡ 3 = search rules in
    let folded : c.fold.result ≡ fold (λ a k. max a k) c.args.header.k (take (min c.args.further.count 3) c.args.further.k) = search (rules, chains) in
    folded ∙ back_fold c.args.header c.args.further size
