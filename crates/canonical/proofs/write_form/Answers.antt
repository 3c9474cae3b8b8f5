use Rattle.std.proofs.Common.{length, sym, ap, ◌∙◌, arith}
use Rattle.encoding.specs.Encoding.{Encoding}
use Rattle.encoding.proofs.Ended.{encoding_in}
use Rattle.encode.specs.Packing.{size_of}
use Rattle.encode.specs.FieldBits.{encoding_bits}
use Rattle.canonical.proofs.Returns.{flagged_small, found, found_form, found_size, found_stand, lacking, written}
use Rattle.canonical.proofs.write_form.Goals as goal

pub symbols_of-symbols-requires : goal.symbols_of-symbols-requires
symbols_of-symbols-requires c =
    let inside = encoding_in c.args.bytes.now c.requires in
    (inside.front, omega (arith, inside.ends))

pub overflow_add-front : goal.overflow_add-front
overflow_add-front c = omega (arith, (encoding_in c.args.bytes.now c.requires).front.fixed.topevent)

pub some_renamed-needed-requires : goal.some_renamed-needed-requires
some_renamed-needed-requires c = omega (arith, (encoding_in c.args.bytes.now c.requires).front.fixed.topevent)

pub size_of-size-requires : goal.size_of-size-requires
size_of-size-requires c =
    flagged_small _ _ c.some_renamed-needed.result (encoding_in c.args.bytes.now c.requires).front c.with_flag-form.ensures

pub returns-then-output-size : goal.returns-then-output-size
returns-then-output-size c =
    let x = found _ c.requires c.symbols_of-symbols.ensures c.some_renamed-needed.ensures c.with_flag-form.ensures c.size_of-size.ensures in
    lacking _ x c.if-output-size.true

pub preamble_end-at-requires : goal.preamble_end-at-requires
preamble_end-at-requires c = (encoding_in c.args.bytes.now c.requires).front

pub write-requires : goal.write-requires
write-requires c =
    let x = found _ c.requires c.symbols_of-symbols.ensures c.some_renamed-needed.ensures c.with_flag-form.ensures c.size_of-size.ensures in
    let at = c.preamble_end-at.ensures in (
      flagged_small _ _ c.some_renamed-needed.result (encoding_in c.args.bytes.now c.requires).front c.with_flag-form.ensures,
      found_stand _ x at,
      found_size x ∙ ap (λ (e : Encoding). size_of (length (encoding_bits e))) (sym (found_form _ x at)),
      c.if-output-size.false,
    )

pub returns : goal.returns
returns c =
    let x = found _ c.requires c.symbols_of-symbols.ensures c.some_renamed-needed.ensures c.with_flag-form.ensures c.size_of-size.ensures in
    written _ _ _ x c.preamble_end-at.ensures c.if-output-size.false c.write.ensures
