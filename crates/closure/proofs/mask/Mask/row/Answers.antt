use Rattle.std.proofs.Common.{◌+◌, sym, ap, subst, ◌∙◌}
use Rattle.closure.specs.Bits.{bit_row, length-bit_row}
use Rattle.closure.proofs.Copying.{CopiedTo, copied_none, copied_put, copied_skip, copied_all}
use Rattle.closure.proofs.mask.Mask.row.Goals as goal
use Rattle.closure.proofs.mask.Mask.row.Goals.{then-has, else-has}

pub loop-atom-init : goal.loop-atom-init
loop-atom-init c = copied_none (bit_row c.args.self.bits) c.clear-row.result.marks c.clear-row.ensures

pub loop-atom-preserved : goal.loop-atom-preserved
loop-atom-preserved c =
    let k = c.loop-atom.atom in
    let from = bit_row c.args.self.bits in
    let is = c.loop-atom.row.marks in
    elim c.if-has.branch [
      | then-has w ↦
          subst (CopiedTo (k + 1) from) (sym (ap (λ s. s.marks) w.row-is ∙ w.put.ensures))
          (copied_put k from is c.loop-atom.row.wide c.loop-atom.invariant (sym c.has.ensures ∙ w.if-has.true))
      | else-has w ↦
          subst (CopiedTo (k + 1) from) (sym (ap (λ s. s.marks) w.row-is)) (copied_skip k from is c.loop-atom.invariant (sym c.has.ensures ∙ w.if-has.false))
    ]

pub returns : goal.returns
returns c =
    copied_all c.loop-atom.atom (bit_row c.args.self.bits) c.loop-atom.row.marks c.loop-atom-test.false (length-bit_row c.args.self.bits) c.loop-atom.row.wide c.loop-atom.invariant
