use Rattle.closure.proofs.Bitwise.{bit_row-minus}
use Rattle.closure.proofs.mask.Mask.minus.Goals as goal

pub returns : goal.returns
returns c = bit_row-minus c.args.self.bits c.args.other.bits c.args.other.small
