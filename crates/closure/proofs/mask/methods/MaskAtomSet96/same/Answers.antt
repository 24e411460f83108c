use Rattle.std.proofs.Common.{ap}
use Rattle.std.proofs.lemmas.Bool.{eqb-true, eq-eqb}
use Rattle.closure.specs.Bits.{bit_row}
use Rattle.closure.proofs.Bitwise.{one_number}
use Rattle.closure.proofs.mask.methods.MaskAtomSet96.same.Goals as goal

pub returns : goal.returns
returns c =
    let s = c.args.self.now in
    let t = c.args.other.now in
    (λ e. ap bit_row (eqb-true s.bits t.bits e), λ e. eq-eqb s.bits t.bits (one_number s.bits t.bits s.small t.small e))
