use Rattle.std.proofs.Common.{true, ◌&&◌, ◌||◌, map, take, sym, ap, ◌∙◌, arith}
use Rattle.std.proofs.lemmas.Bool.Decides.{Decides-at}
use Rattle.closure.specs.Bits.{bit_row}
use Rattle.game.specs.Derives.{fires}
use Rattle.programs.specs.Model.{model, models}
use Rattle.programs.proofs.Scans.{stops, goes, ends}
use Rattle.programs.specs.declared.rule.Rule as code
use Rattle.solving.specs.Tests.{constraint, violated_on}
use Rattle.solving.proofs.Testing.{violated_decides}
use Rattle.programs.specs.MaskRules.{mask_rule}
use Rattle.masked.proofs.Matching.{told_at, same_broken, many, all_kept}
use Rattle.masked.proofs.job.MaskJob.breaks.Goals as goal

pub returns-then-is_broken : goal.returns-then-is_broken
returns-then-is_broken c =
    let job = c.args.self.now in
    let x = bit_row c.args.against.bits in
    let s = bit_row c.args.from.bits in
    let rs = job.program.now.rules.items in
    let i = c.loop-rule.rule-index in
    let t = told_at rs c.rules-rule-items.result.now (all_kept (models rs) job.program.now.kept) (ap (map mask_rule) (c.rules-rule-items.ensures ∙ ap (λ m. take m.count m.rules) c.masks.ensures) ∙ job.program.now.same.0) i c.rule-item.result c.loop-rule-test.true c.rule-item.is in
    Decides-at _ _
    (stops (λ l. violated_on (models l) x s) rs i c.loop-rule.invariant t.rule true t.inside
    (λ rest.
    ap (λ (q : code.Rule). (constraint (model q).head && fires x s (model q)) || violated_on (models rest) x s) (sym t.is)
    ∙ ap (λ b. b || violated_on (models rest) x s) (sym (same_broken x s t _ c.is_broken.ensures) ∙ c.if-is_broken.true)))
    (violated_decides (models rs) x s)

pub loop-rule-preserved : goal.loop-rule-preserved
loop-rule-preserved c =
    let job = c.args.self.now in
    let x = bit_row c.args.against.bits in
    let s = bit_row c.args.from.bits in
    let rs = job.program.now.rules.items in
    let i = c.loop-rule.rule-index in
    let t = told_at rs c.rules-rule-items.result.now (all_kept (models rs) job.program.now.kept) (ap (map mask_rule) (c.rules-rule-items.ensures ∙ ap (λ m. take m.count m.rules) c.masks.ensures) ∙ job.program.now.same.0) i c.rule-item.result c.loop-rule-test.true c.rule-item.is in
    goes (λ l. violated_on (models l) x s) rs i c.loop-rule.invariant t.rule t.inside
    (λ rest.
    ap (λ (q : code.Rule). (constraint (model q).head && fires x s (model q)) || violated_on (models rest) x s) (sym t.is)
    ∙ ap (λ b. b || violated_on (models rest) x s) (sym (same_broken x s t _ c.is_broken.ensures) ∙ c.if-is_broken.false))

pub returns : goal.returns
returns c =
    let job = c.args.self.now in
    let x = bit_row c.args.against.bits in
    let s = bit_row c.args.from.bits in
    let rs = job.program.now.rules.items in
    let all = c.loop-rule-test.false in
    let as_many = many rs c.rules-rule-items.result.now (all_kept (models rs) job.program.now.kept) (ap (map mask_rule) (c.rules-rule-items.ensures ∙ ap (λ m. take m.count m.rules) c.masks.ensures) ∙ job.program.now.same.0) in
    Decides-at _ _ (ends (λ l. violated_on (models l) x s) rs c.loop-rule.rule-index c.loop-rule.invariant (omega (arith, all, as_many))) (violated_decides (models rs) x s)
