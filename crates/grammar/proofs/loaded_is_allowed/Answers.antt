use Rattle.grammar.proofs.loaded_is_allowed.Goals as goal
use Rattle.grammar.proofs.Loading.{loaded_is_allowed}

pub returns : goal.returns
returns c = loaded_is_allowed
