use Rattle.std.proofs.Common.{ap, ◌∙◌, arith}
use Rattle.std.specs.Int.{bit_at}
use Rattle.std.proofs.lemmas.Nat.Bits.{bit_at-zero}
use Rattle.closure.proofs.Bitwise.{lowest_bit, bit_from_in}
use Rattle.closure.proofs.mask.Mask.lowest.Goals as goal

pub returns-then-self-eq0 : goal.returns-then-self-eq0
returns-then-self-eq0 c = λ a h.
    let one = bit_from_in c.args.self.bits a c.args.self.small h in
    let none = ap (λ n. bit_at n a) c.if-self-eq0.true ∙ bit_at-zero a in
    absurd (omega (arith, one, none))

pub returns : goal.returns
returns c = let some = c.if-self-eq0.false in lowest_bit c.args.self.bits c.args.self.small (omega (arith, some))
