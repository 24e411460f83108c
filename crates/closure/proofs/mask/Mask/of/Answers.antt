use Rattle.std.proofs.Common.{◌+◌, sym, ap, subst, ◌∙◌}
use Rattle.closure.specs.Bits.{bit_row, length-bit_row}
use Rattle.closure.proofs.Copying.{CopiedTo, copied_none, copied_put, copied_skip, copied_all}
use Rattle.closure.proofs.mask.Mask.of.Goals as goal
use Rattle.closure.proofs.mask.Mask.of.Goals.{then-has, else-has}

pub loop-atom-init : goal.loop-atom-init
loop-atom-init c = copied_none c.args.row.now.marks (bit_row c.clear-set.result.bits) c.clear-set.ensures

pub loop-atom-preserved : goal.loop-atom-preserved
loop-atom-preserved c =
    let k = c.loop-atom.atom in
    let from = c.args.row.now.marks in
    let is = bit_row c.loop-atom.set.bits in
    elim c.if-has.branch [
      | then-has w ↦
          subst (CopiedTo (k + 1) from) (sym (ap (λ s. bit_row s.bits) w.set-is ∙ w.with-set.ensures))
          (copied_put k from is (length-bit_row c.loop-atom.set.bits) c.loop-atom.invariant (sym c.has.ensures ∙ w.if-has.true))
      | else-has w ↦
          subst (CopiedTo (k + 1) from) (sym (ap (λ s. bit_row s.bits) w.set-is)) (copied_skip k from is c.loop-atom.invariant (sym c.has.ensures ∙ w.if-has.false))
    ]

pub returns : goal.returns
returns c =
    copied_all c.loop-atom.atom c.args.row.now.marks (bit_row c.loop-atom.set.bits) c.loop-atom-test.false c.args.row.now.wide (length-bit_row c.loop-atom.set.bits) c.loop-atom.invariant
