use Rattle.std.proofs.lemmas.Nat.{or_lt}
use Rattle.closure.proofs.Bitwise.{bit_row-or}
use Rattle.closure.proofs.mask.Mask.union.Goals as goal

pub invariant_of-result : goal.invariant_of-result
invariant_of-result c = record { small = or_lt 96 c.args.self.bits c.args.other.bits c.args.self.small c.args.other.small }

pub returns : goal.returns
returns c = bit_row-or c.args.self.bits c.args.other.bits
