-- `witness::writer::prepare` meets its contract.
use borrow.Author.Rules.{rules}
use Rattle.automaton.proofs.Entering.{known_none}
use Rattle.witness.proofs.Outcomes.{prepared}
use Rattle.witness.proofs.writer.prepare.Statement.{statement}
use Rattle.witness.proofs.writer.prepare.Tie as tie

slice-aggregate-silent-rows : tie.Need-slice_bounds-silent_rows-end
slice-aggregate-silent-rows c = search rules

silent-rows-requires : tie.Need-silent_rows-near-requires
silent-rows-requires c κs = (c.requires.0.words, known_none _ _)

silent-back-requires : tie.Need-silent_back-requires
silent-back-requires c κs = search rules

by-symbol-requires : tie.Need-by_symbol-requires
by-symbol-requires c κs = search rules

same-length-2 : tie.Need-shape_of-sets
same-length-2 c = search rules

returns : tie.Need-returns
returns c =
    let r = c.silent_rows-near in
    prepared c.args.table.now c.args.header _ _ _ r.result (search rules) c.requires.0.symbols_small r.ensures
    (λ k. c.silent_back.ensures _ k) (c.by_symbol.ensures _)

pub prepare_spec : {M : Type 1} → statement M
prepare_spec =
    tie.close
    (tie.spec
    slice-aggregate-silent-rows
    silent-rows-requires
    silent-back-requires
    by-symbol-requires
    same-length-2
    returns)
