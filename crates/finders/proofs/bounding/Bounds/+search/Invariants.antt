use Rattle.closure.specs.Bits.{bit_row}
use Rattle.closure.specs.Rows.{marked, minus}
use Rattle.finders.proofs.bounding.Bounds.+search.Given as goal

abbrev pub decreases-search : goal.decreases-search
decreases-search l = marked (minus (bit_row l.self.now.high.bits) (bit_row l.self.now.low.bits))
