use Rattle.std.proofs.Common.{◌≡◌, ◌+◌, false, ◌||◌, eqb, get_or, drop, sym, ap, ◌∙◌, arith}
use Rattle.std.proofs.lemmas.List.{get_or-replicate, at_drop_more, at_drop_all}
use Rattle.std.proofs.Math.Bool.{or-false}
use Rattle.game.specs.Rules.{heads, is_head}
use Rattle.closure.specs.Bits.{bit_row, length-bit_row}
use Rattle.closure.proofs.Marks.{marked_more, or_assoc, row_from}
use Rattle.programs.specs.Model.{head_model, model, models}
use Rattle.programs.proofs.masks.methods.heads_of.Goals as goal
use Rattle.programs.proofs.masks.methods.heads_of.Goals.{in-Some, in_default}

pub loop-rule-init : goal.loop-rule-init
loop-rule-init c a below = ap (λ s. get_or s a false || is_head (models c.args.rules.now) a) c.clear-set.ensures ∙ ap (λ b. b || is_head (models c.args.rules.now) a) (get_or-replicate 96 a false false below)

pub loop-rule-preserved : goal.loop-rule-preserved
loop-rule-preserved c a below =
    let rs = c.args.rules.now in
    let i = c.loop-rule.rule-index in
    let r = c.rule-item.result in
    let was = bit_row c.loop-rule.set.bits in
    let rest = is_head (models (drop (i + 1) rs)) a in
    let left : is_head (models (drop i rs)) a ≡ (heads a (head_model r.head) || rest) =
    at_drop_more (λ l. is_head (models l) a) rs i r c.loop-rule-test.true ∙ ap (λ q. heads a (model q).head || rest) (sym c.rule-item.is) in
    let step : (get_or (bit_row c.match-rule.set.bits) a false || rest) ≡ (get_or was a false || is_head (models (drop i rs)) a) =
    elim c.match-rule.branch [
      | in-Some w ↦
          ap (λ s. get_or (bit_row s.bits) a false || rest) w.set-is ∙ ap (λ s. get_or s a false || rest) w.with-set.ensures
          ∙ ap (λ b. b || rest) (marked_more was w.in-Some.head a (omega (arith, below, length-bit_row c.loop-rule.set.bits)))
          ∙ or_assoc (get_or was a false) (eqb a w.in-Some.head) rest
          ∙ ap (λ b. get_or was a false || b) (sym (left ∙ ap (λ h. heads a h || rest) (ap head_model w.in-Some.is)))
      | in_default w ↦
          ap (λ s. get_or (bit_row s.bits) a false || rest) w.set-is
          ∙ ap (λ b. get_or was a false || b) (sym (left ∙ ap (λ h. heads a h || rest) (ap head_model w.in_default.is)))
    ] in
    step ∙ c.loop-rule.invariant a below

pub returns : goal.returns
returns c =
    let rs = c.args.rules.now in
    let set = bit_row c.loop-rule.set.bits in
    row_from 96 (is_head (models rs)) set (length-bit_row c.loop-rule.set.bits)
    (λ a below.
    sym (ap (λ b. get_or set a false || b) (at_drop_all (λ l. is_head (models l) a) rs c.loop-rule.rule-index c.loop-rule-test.false) ∙ or-false (get_or set a false))
    ∙ c.loop-rule.invariant a below)
