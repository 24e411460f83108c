use Rattle.std.proofs.Common.{◌==◌, false, ap, sym, ◌∙◌, arith}
use Rattle.std.proofs.lemmas.List.{get_or_past}
use Rattle.std.proofs.lemmas.Bool.{le-ltb}
use Rattle.std.proofs.lemmas.Nat.Bits.{shr_and_one}
use Rattle.closure.specs.Bits.{bit_row, length-bit_row}
use Rattle.closure.proofs.Bitwise.{mark_is}
use Rattle.closure.proofs.mask.Mask.has.Goals as goal

pub returns-then-atom-lt96 : goal.returns-then-atom-lt96
returns-then-atom-lt96 c = let set = c.args.self in ap (λ x. x == 1) (shr_and_one set.bits c.args.atom) ∙ sym (mark_is set.bits c.args.atom set.small)

pub returns-else-atom-lt96 : goal.returns-else-atom-lt96
returns-else-atom-lt96 c =
    let past = c.if-atom-lt96.false in
    let set = bit_row c.args.self.bits in
    le-ltb c.args.atom 96 past ∙ sym (get_or_past set c.args.atom false (omega (arith, past, length-bit_row c.args.self.bits)))
