use Rattle.std.proofs.Common.{◌&&◌, refl, rules}
use Rattle.game.specs.Derives.{fires}
use Rattle.programs.specs.Model.{model, models}
use Rattle.solving.specs.Tests.{constraint, violated_on}
use Rattle.solving.proofs.Atoms.{any_is}
use Rattle.solving.proofs.constraints.violates_on.Goals as goal

pub returns : goal.returns
returns g c =
    let x = c.args.against.now.marks in
    let s = c.args.from.now.marks in
    any_is (λ rs. violated_on (models rs) x s) (λ r. constraint (model r).head && fires x s (model r)) refl (λ _ _. refl) c.args.rules.now _ (search rules) (search rules)
