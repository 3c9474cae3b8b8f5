use Rattle.std.proofs.Common.{arith}
use Rattle.relation.proofs.Swapping.{masks_32, masks_16, masks_8, masks_4, masks_2, masks_1, six_rounds}
use Rattle.relation.proofs.transpose.Goals as goal

pub swap_digit-a-requires : goal.swap_digit-a-requires
swap_digit-a-requires c = (omega arith, omega arith, masks_32)

pub swap_digit-b-requires : goal.swap_digit-b-requires
swap_digit-b-requires c = (omega arith, omega arith, masks_16)

pub swap_digit-c-requires : goal.swap_digit-c-requires
swap_digit-c-requires c = (omega arith, omega arith, masks_8)

pub swap_digit-d-requires : goal.swap_digit-d-requires
swap_digit-d-requires c = (omega arith, omega arith, masks_4)

pub swap_digit-e-requires : goal.swap_digit-e-requires
swap_digit-e-requires c = (omega arith, omega arith, masks_2)

pub swap_digit-requires : goal.swap_digit-requires
swap_digit-requires c = (omega arith, omega arith, masks_1)

pub returns : goal.returns
returns c =
    six_rounds _ _ _ _ _ _ _ (omega arith) c.swap_digit-a.ensures c.swap_digit-b.ensures c.swap_digit-c.ensures
    c.swap_digit-d.ensures c.swap_digit-e.ensures c.swap_digit.ensures
