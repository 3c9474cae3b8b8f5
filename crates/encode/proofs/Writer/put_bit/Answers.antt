use Rattle.std.proofs.Common.{refl, arith}
use Rattle.encode.proofs.Written.{bit_in, bit_past}
use Rattle.encode.proofs.Writer.put_bit.Goals as goal
use Rattle.encode.proofs.Writer.put_bit.Goals.{then-i-self, else-i-self}

pub returns : goal.returns
returns c =
    elim c.if-i-self.branch [
      | then-i-self w ↦ rw w.self-is (record { same = refl; next = omega arith; wrote = bit_in _ _ _ c.requires.0 })
      | else-i-self w ↦ rw w.self-is (record { same = refl; next = omega arith; wrote = bit_past _ _ _ w.if-i-self.false })
    ]
