use Rattle.std.proofs.Common.{sym, ap, ◌∙◌, subst, arith, rules}
use Rattle.std.proofs.lemmas.Bool.{false≢true, ltb-true}
use Rattle.std.proofs.lemmas.Bool.Decides.{Decides-at}
use Rattle.programs.specs.Limits.{head_below}
use Rattle.programs.specs.Model.{head_model, model}
use Rattle.programs.specs.Programs.{rules_of}
use Rattle.solving.specs.Reached.{Reached}
use Rattle.game.specs.Published.{any_in}
use Rattle.solving.proofs.Breaking.{headless, breaks_decide}
use Rattle.solving.proofs.strata.breaks.Goals as goal

pub returns-in-None : goal.returns-in-None
returns-in-None g c = (λ e. absurd (false≢true e), λ broken. absurd (headless (rules_of c.args.program.now) (model c.args.rule.now) (ap head_model c.in-None.is) broken))

pub returns-in-Some : goal.returns-in-Some
returns-in-Some g c =
    let rules = rules_of c.args.program.now in
    let r = model c.args.rule.now in
    let reached = subst (λ a. Reached rules a c.reach-reached.result.marks) c.from.ensures c.reach-reached.ensures in
    Decides-at c.some_in.result (any_in c.reach-reached.result.marks r.negated) (c.some_in.ensures ∙ ap (any_in c.reach-reached.result.marks) c.as_slice.ensures.value)
    (breaks_decide rules r c.in-Some.head c.reach-reached.result.marks (ap head_model c.in-Some.is) reached)

pub reach-reached-requires : goal.reach-reached-requires
reach-reached-requires g c =
    let less = ltb-true c.in-Some.head g.row.N (ap (head_below g.row.N) (sym (ap head_model c.in-Some.is)) ∙ c.requires.head) in
    (search rules, (search rules, omega (arith, less, c.from.ensures)))
