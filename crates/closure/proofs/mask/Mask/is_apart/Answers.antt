use Rattle.closure.proofs.Bitwise.{apart_bits}
use Rattle.closure.proofs.mask.Mask.is_apart.Goals as goal

pub returns : goal.returns
returns c = apart_bits c.args.self.bits c.args.other.bits c.args.self.small c.args.other.small
