use Rattle.std.proofs.Common.{ap, ◌∙◌}
use Rattle.std.proofs.lemmas.Bool.Decides.{Decides-at}
use Rattle.programs.specs.Programs.{rules_of}
use Rattle.solving.specs.Tests.{violated_on}
use Rattle.solving.proofs.Testing.{violated_decides}
use Rattle.solving.proofs.bounds.breaks_constraint.Goals as goal

pub returns : goal.returns
returns g c =
    let x = c.args.against.now.marks in
    let s = c.args.from.now.marks in
    let rules = rules_of c.args.program.now in
    Decides-at _ _ (c.violates_on.ensures ∙ ap (λ rs. violated_on rs x s) c.rules.ensures) (violated_decides rules x s)
