use Rattle.grammar.proofs.read_is_spelled.Goals as goal
use Rattle.grammar.proofs.Reading.{read_is_spelled}

pub returns : goal.returns
returns c = read_is_spelled
