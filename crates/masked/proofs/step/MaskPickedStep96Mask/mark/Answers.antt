use Rattle.std.proofs.Common.{◌≡◌, ◌+◌, false, ◌||◌, get_or, drop, map, take, sym, ap, ◌∙◌, arith}
use Rattle.game.specs.Rules.{heads}
use Rattle.closure.specs.Bits.{bit_row, length-bit_row}
use Rattle.closure.specs.declared.mask.Mask.{Mask}
use Rattle.closure.proofs.Marks.{get_or-row, get_or-union}
use Rattle.programs.specs.MaskRules.{mask_rule}
use Rattle.programs.specs.Model.{head_model, model, models}
use Rattle.solving.specs.Tests.{headed_by}
use Rattle.solving.proofs.Marking.{with_one, known_one, unpicked, none_left}
use Rattle.masked.proofs.Matching.{told_at, same_head, many, all_kept}
use Rattle.masked.proofs.step.MaskPickedStep96Mask.mark.Goals as goal
use Rattle.masked.proofs.step.MaskPickedStep96Mask.mark.Goals.{then-not-is_within+then-picks, else-not-is_within, else-not-is_within-via-then-not-is_within+else-picks, else-not-is_within-via-else-not-is_within}

pub loop-rule-preserved : goal.loop-rule-preserved
loop-rule-preserved g c a less =
    let self = c.args.self.now in
    let s = bit_row c.args.from.now.bits in
    let p = g.P.MaskPicks.chosen self.picker s in
    let rs = self.program.now.rules.items in
    let i = c.loop-rule.rule-index in
    let m = c.rule-item.result in
    let t = told_at rs c.rules-rule-items.result.now (all_kept (models rs) self.program.now.kept) (ap (map mask_rule) (c.rules-rule-items.ensures ∙ ap (λ m. take m.count m.rules) c.masks.ensures) ∙ self.program.now.same.0) i m c.loop-rule-test.true c.rule-item.is in
    let out = bit_row c.loop-rule.out.bits in
    let one = bit_row c.one-head.result.bits in
    let rest = headed_by p (models (drop (i + 1) rs)) a in
    let head : get_or one a false ≡ heads a (model t.rule).head =
    ap (λ (k : Mask). get_or (bit_row k.bits) a false) c.one-head.ensures ∙ ap (λ r. get_or r a false) m.told ∙ get_or-row 96 (λ b. heads b (head_model m.head)) a less ∙ ap (heads a) (same_head t) in
    let step : (get_or (bit_row c.if-not-is_within.out.bits) a false || rest) ≡ (get_or out a false || headed_by p (models (drop i rs)) a) =
    elim c.if-not-is_within.branch [
      | then-not-is_within+then-picks w ↦
          ap (λ o. get_or (bit_row o.bits) a false || rest) w.out-is ∙ ap (λ r. get_or r a false || rest) w.union.ensures ∙ ap (λ b. b || rest) (get_or-union out one a)
          ∙ with_one p rs i t.rule t.inside t.is a (get_or out a false) (get_or one a false) head (sym (w.picks.ensures (model t.rule) t.fits t.same) ∙ w.if-picks.true)
      | else-not-is_within w ↦
          ap (λ o. get_or (bit_row o.bits) a false || rest) w.out-is
          ∙ elim w.else-not-is_within.branch [
            | else-not-is_within-via-then-not-is_within+else-picks w' ↦ unpicked p rs i t.rule t.inside t.is a (get_or out a false) (sym (w'.picks.ensures (model t.rule) t.fits t.same) ∙ w'.if-picks.false)
            | else-not-is_within-via-else-not-is_within w' ↦ known_one p rs i t.rule t.inside t.is a (get_or out a false) (get_or one a false) head (λ e. c.is_within.ensures.0 w'.if-not-is_within.false a e)
          ]
    ] in
    step ∙ c.loop-rule.invariant a less

pub returns : goal.returns
returns g c =
    let self = c.args.self.now in
    let p = g.P.MaskPicks.chosen self.picker (bit_row c.args.from.now.bits) in
    let rs = self.program.now.rules.items in
    let ms = c.rules-rule-items.result.now in
    let all = c.loop-rule-test.false in
    let as_many = many rs ms (all_kept (models rs) self.program.now.kept) (ap (map mask_rule) (c.rules-rule-items.ensures ∙ ap (λ m. take m.count m.rules) c.masks.ensures) ∙ self.program.now.same.0) in
    record {
      width = length-bit_row c.loop-rule.out.bits;
      each = λ a less. none_left p rs c.loop-rule.rule-index a (get_or (bit_row c.loop-rule.out.bits) a false) (omega (arith, all, as_many)) ∙ c.loop-rule.invariant a less;
    }
