use Rattle.std.proofs.Common.{rules, sym, ◌∙◌}
use Rattle.std.proofs.lemmas.Iterator.{YieldsList-from_slice}
use Rattle.std.proofs.lemmas.Iterator.Search.{any_from_yields_List}
use Rattle.game.specs.Rules.{in_rule}
use Rattle.programs.specs.Model.{model}
use Rattle.programs.proofs.Tests.{stands_any}
use Rattle.programs.proofs.program.methods.some_mentions.Goals as goal

pub returns : goal.returns
returns c =
    any_from_yields_List (λ r. in_rule c.args.atom (model r)) _ _ c.any.result c.any.ensures.ran (YieldsList-from_slice c.args.rules.now cc) (λ x b q k. search rules)
    ∙ sym (stands_any c.args.atom c.args.rules.now)
