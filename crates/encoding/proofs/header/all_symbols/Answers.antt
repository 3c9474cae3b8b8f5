-- One symbol more, by `filled`.
use Rattle.std.proofs.Common.{◌≡◌, refl, arith, length-set}
use Rattle.lists.proofs.Filled.{filled}
use Rattle.bitfields.specs.Bits.{bits_of}
use Rattle.encoding.specs.Transitions.{symbols_at}
use Rattle.encoding.specs.Answers.{symbol_for}
use Rattle.encoding.proofs.HeaderSymbols.{header_is}
use Rattle.encoding.proofs.header.all_symbols.Goals as goal

pub loop-e-init : goal.loop-e-init
loop-e-init c = (refl, λ k h. absurd (omega arith))

pub loop-e-preserved : goal.loop-e-preserved
loop-e-preserved c =
    let l = c.loop-e in
    let a = c.args in (
      simp length-set l.invariant.0,
      filled (λ k w. w ≡ symbol_for a.observable (symbols_at (bits_of a.bytes.now) a.at a.n) k) l.symbols l.e _ (omega (arith, l.invariant.0))
          l.invariant.1 c.symbol_at.ensures,
    )

pub returns : goal.returns
returns c =
    let l = c.loop-e in
    header_is _ _ _ l.invariant.0 (λ k h. l.invariant.1 k (omega arith))
