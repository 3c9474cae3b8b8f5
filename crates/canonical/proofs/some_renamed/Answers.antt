use Rattle.std.proofs.Common.{get_or, refl, ◌∙◌, rules, arith, tests}
use Rattle.std.proofs.lemmas.Iterator.{YieldsList-from_range}
use Rattle.std.proofs.lemmas.Iterator.Search.{any_from_yields_List}
use Rattle.canonical.specs.Meanings.{renamed}
use Rattle.canonical.proofs.Renaming.{any_renamed}
use Rattle.canonical.proofs.some_renamed.Goals as goal

pub returns : goal.returns
returns c =
    let a = c.args in
    any_from_yields_List (renamed a.observable (λ x. get_or a.symbols.now x 0)) _ _ _ c.any.ensures.ran (YieldsList-from_range 0 a.n a.n refl (omega arith))
    (λ x b q k. search (rules, tests))
    ∙ any_renamed a.observable (λ x. get_or a.symbols.now x 0) a.n
