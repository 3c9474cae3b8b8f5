-- The three bytes hold the bits, by `number_three`.
use Rattle.std.proofs.Common.{◌≡◌, ◌+◌, ◌*◌, ◌/◌, ◌%◌, ◌^◌, ◌∙◌, arith}
use lib.Pow.{shl_exact}
use Rattle.bitfields.proofs.Bits.{number_three}
use Rattle.bitfields.proofs.number_at.Goals as goal

pub returns : goal.returns
returns c =
    let a = c.args in
    let bs = a.bytes.now in
    let high = c.byte_at-high.ensures in
    let middle = c.byte_at-middle.ensures in
    let low = c.byte_at-low.ensures in
    let place : a.at ≡ a.at / 8 * 8 + a.at % 8 = omega arith in
    let shift : 1 * 2 ^ a.width % 18446744073709551616 ≡ 2 ^ a.width = shl_exact {a = 1} 1 a.width 64 (omega arith) (omega arith) ∙ omega arith in
    let number = number_three bs (a.at / 8) (a.at % 8) a.width (omega arith) (omega arith) (omega arith) (omega arith) in
    rw (shift, high.0, middle.0, low.0) (rw (← place) at number)
