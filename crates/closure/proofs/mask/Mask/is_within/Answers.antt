use Rattle.closure.proofs.Bitwise.{within_bits}
use Rattle.closure.proofs.mask.Mask.is_within.Goals as goal

pub returns : goal.returns
returns c = within_bits c.args.self.bits c.args.other.bits c.args.self.small c.args.other.small
