use Rattle.std.proofs.Common.{◌≡◌, ℕ, ◌∙◌, rules, tests}
use Rattle.std.specs.Option.{option_map}
use Rattle.std.specs.Borrow.{Bor}
use Rattle.std.proofs.lemmas.Iterator.{YieldsList-from_slice, YieldsList-from_zip}
use Rattle.std.proofs.lemmas.Iterator.Search.{find_from_yields_List}
use Rattle.programs.specs.declared.rule.Rule as code
use Rattle.programs.specs.Model.{head_model}
use Rattle.reading.specs.Loads.{head_in}
use Rattle.loading.specs.Earlier.{earlier}
use Rattle.loading.proofs.Taking.{place_found}
use Rattle.loading.proofs.heads.first_taken.Goals as goal

pub returns : goal.returns
returns c =
    let E = earlier c.args.plan.now c.args.faults in
    let rs = c.rules-rules.result.now in
    let ps = c.places.result.now in
    let mapped : c.map.result ≡ option_map (λ (x : Bor code.Rule × Bor ℕ). x.1.now) c.find.result = search rules in
    mapped
    ∙ place_found rs ps _ _ E c.find.result (c.rules-rules.ensures ∙ c.program.ensures) c.places.ensures
    (find_from_yields_List (λ (x : code.Rule × ℕ). head_in (head_model x.0.head) E) c.find.new.self _ c.find.result c.find.ensures.ran (YieldsList-from_zip (YieldsList-from_slice rs cc) (YieldsList-from_slice ps cc)) (λ x b q k. search (rules, tests)))
