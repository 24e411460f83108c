use Rattle.std.proofs.Common.{rules}
use Rattle.refusals.specs.Line.{line}
use Rattle.refusals.proofs.line.refusal_line.Goals as goal

pub returns : goal.returns
unfolding line
returns c = search rules
