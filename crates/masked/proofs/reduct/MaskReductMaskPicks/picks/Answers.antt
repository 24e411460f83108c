use Rattle.closure.specs.Bits.{bit_row}
use Rattle.masked.proofs.Matching.{same_fires}
use Rattle.masked.proofs.reduct.MaskReductMaskPicks.picks.Goals as goal

pub returns : goal.returns
returns c = same_fires (bit_row c.args.self.now.against.bits) (bit_row c.args.from.bits) c.args.rule.now c.fires.result c.fires.ensures
