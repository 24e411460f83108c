use Rattle.std.proofs.Common.{ltb, rules, tests, sym, ◌∙◌}
use Rattle.std.proofs.lemmas.Iterator.{YieldsList-from_slice}
use Rattle.std.proofs.lemmas.Iterator.Search.{all_from_yields_List}
use Rattle.programs.proofs.Tests.{below_all}
use Rattle.programs.proofs.rule.below.Goals as goal

pub returns : goal.returns
returns c =
    all_from_yields_List (λ a. ltb a c.args.limit) _ _ c.all.result c.all.ensures.ran (YieldsList-from_slice c.args.atoms.now cc) (λ x b q k. search (rules, tests))
    ∙ sym (below_all c.args.limit c.args.atoms.now)
