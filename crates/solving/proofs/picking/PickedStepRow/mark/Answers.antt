use Rattle.std.proofs.Common.{◌≡◌, ◌+◌, ◌<◌, false, ◌||◌, length, get_or, drop, sym, ap, ◌∙◌, arith}
use Rattle.programs.specs.Model.{head_model, models}
use Rattle.solving.specs.Tests.{headed_by}
use Rattle.closure.proofs.Marks.{marked_more}
use Rattle.solving.proofs.Marking.{with_head, unpicked, headless, none_left}
use Rattle.solving.proofs.picking.PickedStepRow.mark.Goals as goal
use Rattle.solving.proofs.picking.PickedStepRow.mark.Goals.{in-Some+then-picks, in-Some+else-picks, in_default}

pub loop-rule-preserved : goal.loop-rule-preserved
loop-rule-preserved g c a less =
    let p = g.P.Picks.chosen c.args.self.now.picker c.args.from.now.marks in
    let rs = c.rules-rule-items.result.now in
    let i = c.loop-rule.rule-index in
    let r = c.rule-item.result in
    let out = c.loop-rule.out.marks in
    let step : (get_or c.match-rule.out.marks a false || headed_by p (models (drop (i + 1) rs)) a) ≡ (get_or out a false || headed_by p (models (drop i rs)) a) =
    elim c.match-rule.branch [
      | in-Some+then-picks w ↦
          let wide : a < length out = omega (arith, c.loop-rule.out.wide) in
          ap (λ b. b || headed_by p (models (drop (i + 1) rs)) a) (ap (λ s. get_or s a false) (ap (λ o. o.marks) w.out-is ∙ w.put.ensures) ∙ marked_more out _ a wide)
          ∙ with_head p rs i r c.loop-rule-test.true c.rule-item.is a (get_or out a false) w.in-Some.head (ap head_model w.in-Some.is) (sym w.if-picks.ensures)
      | in-Some+else-picks w ↦
          ap (λ o. get_or o.marks a false || headed_by p (models (drop (i + 1) rs)) a) w.out-is
          ∙ unpicked p rs i r c.loop-rule-test.true c.rule-item.is a (get_or out a false) (sym w.if-picks.ensures)
      | in_default w ↦
          ap (λ o. get_or o.marks a false || headed_by p (models (drop (i + 1) rs)) a) w.out-is
          ∙ headless p rs i r c.loop-rule-test.true c.rule-item.is a (get_or out a false) (ap head_model w.in_default.is)
    ] in
    step ∙ c.loop-rule.invariant a less

pub returns : goal.returns
returns g c =
    let p = g.P.Picks.chosen c.args.self.now.picker c.args.from.now.marks in
    let rs = c.rules-rule-items.result.now in
    record {
      width = c.loop-rule.out.wide;
      each = λ a less.
          none_left p rs c.loop-rule.rule-index a (get_or c.loop-rule.out.marks a false) c.loop-rule-test.false ∙ c.loop-rule.invariant a less
          ∙ ap (λ rules. get_or c.args.out.now.marks a false || headed_by p rules a) c.rules-rule-items.ensures;
    }
