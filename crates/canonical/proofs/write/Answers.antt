use Rattle.std.proofs.Common.{take, sym, ◌∙◌, arith}
use Rattle.std.proofs.lemmas.List.{length-take-le}
use Rattle.bitfields.specs.Bits.{bits_of}
use Rattle.encoding.specs.Encoding.{symbol_count}
use Rattle.encoding.proofs.Ended.{symbols_few}
use Rattle.encode.proofs.Lengths.{length_preamble}
use Rattle.encode.proofs.Steps.{encoding_written}
use Rattle.canonical.specs.Rows.{form_at}
use Rattle.canonical.proofs.write.Goals as goal

-- cleared, then the preamble, then the transitions
pub returns : goal.returns
returns c =
    let front = c.args.form in
    let symbols = c.args.symbols.now in
    let number = length-take-le (symbol_count front.fixed) symbols (omega (arith, symbols_few front.fixed c.requires.0.fixed)) in
    encoding_written (form_at (bits_of c.args.bytes.now) c.args.at front symbols) _ _ _ _ _ _ c.requires.2
    c.clear.ensures
    (c.put_preamble-next.ensures.0 ∙ sym (length_preamble front (take (symbol_count front.fixed) symbols) number))
    c.put_preamble-next.ensures.1 c.put_transitions.ensures.1
