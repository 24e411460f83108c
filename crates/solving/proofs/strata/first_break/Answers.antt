use Rattle.std.proofs.Common.{◌≡◌, true, leb, length, get_or, sym, ap, ◌∙◌, subst, ⊎_elim, arith, rules}
use Rattle.std.proofs.lemmas.Bool.{and_parts, cases_eq}
use Rattle.std.proofs.lemmas.List.{get_or_default}
use Rattle.std.proofs.lemmas.Bool.Decides.{not_from_Decides}
use Rattle.game.specs.Strata.{Breaks, FirstBreak, Stratified}
use Rattle.programs.specs.Limits.{all_fit, rule_fits, fits}
use Rattle.programs.specs.Model.{model, models}
use Rattle.programs.specs.Programs.{rules_of}
use Rattle.programs.proofs.Fitting.{kept}
use Rattle.solving.proofs.Breaking.{rule_at, first_at, stratified}
use Rattle.solving.proofs.strata.first_break.Goals as goal

pub breaks-requires : goal.breaks-requires
breaks-requires g c =
    let rs = c.rules-rule-items.result.now in
    let all : all_fit g.row.N (models rs) ≡ true = (and_parts (leb (length (models rs)) 256) _ (ap (fits g.row.N) c.rules-rule-items.ensures ∙ c.args.program.now.kept)).1 in
    (search rules, (c.requires, (kept g.row.N (model c.rule-item.result) (ap (λ r. rule_fits g.row.N (model r)) c.rule-item.is ∙ rule_at g.row.N rs c.loop-i.i c.rule-item.result c.loop-i-test.true all)).head))

pub returns-then-breaks : goal.returns-then-breaks
returns-then-breaks g c =
    let rs = c.rules-rule-items.result.now in
    let r = c.rule-item.result in
    let same = c.rules-rule-items.ensures in
    subst (λ rules. FirstBreak rules c.loop-i.i) same
    (first_at rs c.loop-i.i r c.loop-i-test.true (λ j d less broken. c.loop-i.invariant j d less (subst (λ rules. Breaks rules (model (get_or rs j d))) same broken)) (subst (λ q. Breaks (models rs) (model q)) c.rule-item.is (subst (λ rules. Breaks rules (model r)) (sym same) (c.breaks.ensures.0 c.if-breaks.true))))

pub loop-i-preserved : goal.loop-i-preserved
loop-i-preserved g c j d less broken =
    let rs = c.rules-rule-items.result.now in
    ⊎_elim
    (λ same. not_from_Decides c.breaks.result c.breaks.ensures c.if-breaks.false (subst (λ q. Breaks (rules_of c.args.program.now) (model q)) (ap (λ k. get_or rs k d) same ∙ get_or_default rs c.loop-i.i d c.rule-item.result c.loop-i-test.true ∙ sym c.rule-item.is) broken))
    (λ other. c.loop-i.invariant j d (omega arith) broken) (cases_eq j c.loop-i.i)

pub returns : goal.returns
returns g c =
    let rs = c.rules-rule-items.result.now in
    subst Stratified c.rules-rule-items.ensures (stratified rs (λ j d less broken. c.loop-i.invariant j d (omega (arith, c.loop-i-test.false)) (subst (λ rules. Breaks rules (model (get_or rs j d))) c.rules-rule-items.ensures broken)))
