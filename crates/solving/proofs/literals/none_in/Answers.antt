use Rattle.std.proofs.Common.{not, ap, ◌∙◌}
use Rattle.solving.proofs.Atoms.{none_is_not_any}
use Rattle.solving.proofs.literals.none_in.Goals as goal

pub returns : goal.returns
returns g c = ap not c.some_in.ensures ∙ none_is_not_any c.args.row.now.marks c.args.atoms.now
