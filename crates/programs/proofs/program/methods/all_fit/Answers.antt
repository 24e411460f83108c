use Rattle.std.proofs.Common.{rules, sym, ◌∙◌}
use Rattle.std.proofs.lemmas.Iterator.{YieldsList-from_slice}
use Rattle.std.proofs.lemmas.Iterator.Search.{all_from_yields_List}
use Rattle.programs.specs.Limits.{rule_fits}
use Rattle.programs.specs.Model.{model}
use Rattle.programs.proofs.Tests.{fit_all}
use Rattle.programs.proofs.program.methods.all_fit.Goals as goal

pub returns : goal.returns
returns c =
    all_from_yields_List (λ r. rule_fits c.args.limit (model r)) _ _ c.all.result c.all.ensures.ran (YieldsList-from_slice c.args.rules.now cc) (λ x b q k. search rules)
    ∙ sym (fit_all c.args.limit c.args.rules.now)
