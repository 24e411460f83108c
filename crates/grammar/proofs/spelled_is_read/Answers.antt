use Rattle.grammar.proofs.spelled_is_read.Goals as goal
use Rattle.grammar.proofs.Reading.{spelled_is_read}

pub returns : goal.returns
returns c = spelled_is_read
