-- `automaton::well_formed` meets its contract: each test decides one of the limits.
use borrow.Author.Rules.{rules}
use Rattle.stateset.proofs.Decides.{decided_as}
use Rattle.automaton.proofs.well_formed.Statement.{statement}
use Rattle.automaton.proofs.well_formed.Tie as tie

returns : tie.Need-returns-then-table-ne2048
returns c = search rules

returns-2 : tie.Need-returns-then-header-gt15
returns-2 c = search rules

returns-3 : tie.Need-returns-then-header-gt63
returns-3 c = search rules

small-symbols-requires : tie.Need-small_symbols-requires
small-symbols-requires c κs = search rules

returns-4 : tie.Need-returns
returns-4 c =
    decided_as c.small_symbols.result
    (λ s. record { words = search rules; back = search rules; start = search rules; symbols_small = s })
    (λ x. x.symbols_small)
    c.small_symbols.ensures

pub well_formed_spec : {M : Type 1} → statement M
well_formed_spec = tie.close (tie.spec returns returns-2 returns-3 small-symbols-requires returns-4)
