use Rattle.std.proofs.Common.{sym, ◌∙◌}
use Rattle.programs.proofs.Tests.{among_any}
use Rattle.programs.proofs.rule.among.Goals as goal

pub returns : goal.returns
returns c = c.contains.ensures.value ∙ sym (among_any c.args.atom c.args.atoms.now)
