use Rattle.std.proofs.Common.{◌≡◌, ◌<◌, ◌≤◌, ltb, ap, sym, ◌∙◌, ⊎_elim, arith}
use Rattle.std.proofs.lemmas.Bool.{cases_lt, lt-ltb, le-ltb}
use Rattle.closure.proofs.Bitwise.{below_small, below_mark}
use Rattle.closure.proofs.mask.Mask.below.Goals as goal

pub invariant_of-result : goal.invariant_of-result
invariant_of-result c = record { small = below_small c.min.result (let e = c.min.ensures in omega (arith, e)) }

pub returns : goal.returns
returns c j inside =
    let e = c.min.ensures in
    let a = c.args.atom in
    below_mark c.min.result (omega (arith, e)) j inside
    ∙ ⊎_elim (λ less. lt-ltb j c.min.result less ∙ sym (lt-ltb j a (omega (arith, e, less)))) (λ more. le-ltb j c.min.result more ∙ sym (le-ltb j a (omega (arith, e, more, inside)))) (cases_lt j c.min.result)
