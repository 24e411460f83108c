use Rattle.std.proofs.Common.{◌≡◌, ◌+◌, ◌<◌, true, false, ◌||◌, length, get_or, drop, refl, ap, ◌∙◌, arith}
use Rattle.game.specs.Rules.{is_head}
use Rattle.programs.specs.Model.{head_model, models}
use Rattle.solving.specs.Tests.{headed_by}
use Rattle.closure.proofs.Marks.{marked_more}
use Rattle.solving.proofs.Marking.{picked_heads, clear_mark, with_head, headless, none_left}
use Rattle.solving.proofs.bounds.heads.Goals as goal
use Rattle.solving.proofs.bounds.heads.Goals.{in-Some, in_default}

pub loop-rule-init : goal.loop-rule-init
loop-rule-init g c a less = ap (λ b. b || headed_by (λ _. true) (models c.rules-rule-items.result.now) a) (ap (λ s. get_or s a false) c.clear-row.ensures ∙ clear_mark g.row.N a)

pub loop-rule-preserved : goal.loop-rule-preserved
loop-rule-preserved g c a less =
    let rs = c.rules-rule-items.result.now in
    let i = c.loop-rule.rule-index in
    let r = c.rule-item.result in
    let row = c.loop-rule.row.marks in
    let rest = headed_by (λ _. true) (models (drop (i + 1) rs)) a in
    let step : (get_or c.match-rule.row.marks a false || rest) ≡ (get_or row a false || headed_by (λ _. true) (models (drop i rs)) a) =
    elim c.match-rule.branch [
      | in-Some w ↦
          let wide : a < length row = omega (arith, c.loop-rule.row.wide) in
          ap (λ b. b || rest) (ap (λ s. get_or s a false) (ap (λ o. o.marks) w.row-is ∙ w.put.ensures) ∙ marked_more row _ a wide)
          ∙ with_head (λ _. true) rs i r c.loop-rule-test.true c.rule-item.is a (get_or row a false) w.in-Some.head (ap head_model w.in-Some.is) refl
      | in_default w ↦
          ap (λ o. get_or o.marks a false || rest) w.row-is
          ∙ headless (λ _. true) rs i r c.loop-rule-test.true c.rule-item.is a (get_or row a false) (ap head_model w.in_default.is)
    ] in
    step ∙ c.loop-rule.invariant a less

pub returns : goal.returns
returns g c a less =
    let rs = c.rules-rule-items.result.now in
    none_left (λ _. true) rs c.loop-rule.rule-index a (get_or c.loop-rule.row.marks a false) c.loop-rule-test.false ∙ c.loop-rule.invariant a less
    ∙ picked_heads (models rs) a ∙ ap (λ rules. is_head rules a) c.rules-rule-items.ensures
