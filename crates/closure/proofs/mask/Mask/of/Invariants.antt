use Rattle.closure.specs.Bits.{bit_row}
use Rattle.closure.proofs.Copying.{CopiedTo}
use Rattle.closure.proofs.mask.Mask.of.Given as goal

abbrev pub invariant-loop-atom : goal.invariant-loop-atom
invariant-loop-atom l = CopiedTo l.atom l.row.marks (bit_row l.set.bits)
