use Rattle.closure.specs.Bits.{bit_row}
use Rattle.closure.proofs.Copying.{CopiedTo}
use Rattle.closure.proofs.mask.Mask.row.Given as goal

abbrev pub invariant-loop-atom : goal.invariant-loop-atom
invariant-loop-atom l = CopiedTo l.atom (bit_row l.self.bits) l.row.marks
