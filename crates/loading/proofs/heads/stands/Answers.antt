use Rattle.std.proofs.Common.{◌≡◌, false, ◌||◌, sym, ap, ◌∙◌, rules, MatchOption}
use Rattle.programs.specs.Model.{head_model}
use Rattle.programs.specs.Programs.{rules_of}
use Rattle.reading.specs.Loads.{head_in}
use Rattle.game.specs.Rules.{stands}
use Rattle.loading.specs.Earlier.{earlier}
use Rattle.loading.proofs.Taking.{in_plan, in_either}
use Rattle.loading.proofs.heads.stands.Goals as goal

pub returns-then-mentions : goal.returns-then-mentions
returns-then-mentions c =
    let a = c.in-Some.atom in
    c.if-mentions.true ∙ (in_plan a c.args.plan.now c.args.faults (sym c.if-mentions.ensures) ∙ sym (ap (λ h. head_in (head_model h) (earlier c.args.plan.now c.args.faults)) c.in-Some.is))

pub returns-else-mentions : goal.returns-else-mentions
returns-else-mentions c =
    let a = c.in-Some.atom in
    let later : MatchOption c.args.faults (c.is_some_and.result ≡ false) (λ f. c.is_some_and.result ≡ stands a (rules_of f.now)) = search rules in
    let either = in_either a c.args.plan.now c.args.faults c.is_some_and.result later in
    ap (λ b. b || c.is_some_and.result) c.if-mentions.ensures ∙ (either ∙ sym (ap (λ h. head_in (head_model h) (earlier c.args.plan.now c.args.faults)) c.in-Some.is))
