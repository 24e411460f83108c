use Rattle.std.proofs.Common.{false, ◌||◌, eqb, get_or, sym, ap, ◌∙◌, arith}
use Rattle.std.proofs.lemmas.List.{get_or-replicate}
use Rattle.game.specs.Rules.{heads}
use Rattle.closure.specs.Bits.{bit_row, length-bit_row}
use Rattle.closure.proofs.Marks.{marked_more, row_from}
use Rattle.programs.specs.Model.{head_model}
use Rattle.programs.proofs.mask_rule.methods.one_of.Goals as goal

pub returns-in-Some : goal.returns-in-Some
returns-in-Some c =
    let none = bit_row c.clear.result.bits in
    let h = c.in-Some.atom in
    row_from 96 (λ a. heads a (head_model c.args.head)) (bit_row c.with.result.bits) (length-bit_row c.with.result.bits)
    (λ a less.
    ap (λ s. get_or s a false) c.with.ensures ∙ marked_more none h a (omega (arith, less, length-bit_row c.clear.result.bits))
    ∙ ap (λ s. get_or s a false || eqb a h) c.clear.ensures ∙ ap (λ b. b || eqb a h) (get_or-replicate 96 a false false less)
    ∙ sym (ap (λ o. heads a (head_model o)) c.in-Some.is))

pub returns-in-None : goal.returns-in-None
returns-in-None c =
    row_from 96 (λ a. heads a (head_model c.args.head)) (bit_row c.clear-in-None.result.bits) (length-bit_row c.clear-in-None.result.bits)
    (λ a less. ap (λ s. get_or s a false) c.clear-in-None.ensures ∙ get_or-replicate 96 a false false less ∙ sym (ap (λ o. heads a (head_model o)) c.in-None.is))
