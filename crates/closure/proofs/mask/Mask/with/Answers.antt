use Rattle.std.proofs.Common.{true, sym, arith}
use Rattle.std.proofs.lemmas.List.{set_past}
use Rattle.closure.specs.Bits.{bit_row, length-bit_row}
use Rattle.closure.proofs.Bitwise.{bit_row-set, bit_set_small}
use Rattle.closure.proofs.mask.Mask.with.Goals as goal

pub returns-then-atom-ge96 : goal.returns-then-atom-ge96
returns-then-atom-ge96 c =
    let set = c.args.self in
    let past = c.if-atom-ge96.true in
    sym (set_past (bit_row set.bits) c.args.atom true (omega (arith, past, length-bit_row set.bits)))

pub invariant_of-result : goal.invariant_of-result
invariant_of-result c = record { small = bit_set_small c.args.self.bits c.args.atom c.args.self.small (let below = c.if-atom-ge96.false in omega (arith, below)) }

pub returns : goal.returns
returns c = bit_row-set c.args.self.bits c.args.atom (let below = c.if-atom-ge96.false in omega (arith, below))
