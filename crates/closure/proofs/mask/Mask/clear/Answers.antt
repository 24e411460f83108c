use Rattle.closure.proofs.Bitwise.{bit_row-zero}
use Rattle.closure.proofs.mask.Mask.clear.Goals as goal

pub returns : goal.returns
returns c = bit_row-zero
