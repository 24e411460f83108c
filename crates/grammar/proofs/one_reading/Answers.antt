use Rattle.grammar.proofs.one_reading.Goals as goal
use Rattle.grammar.proofs.Reading.{one_reading}

pub returns : goal.returns
returns c = one_reading
