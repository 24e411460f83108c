use Rattle.grammar.proofs.allowed_is_loaded.Goals as goal
use Rattle.grammar.proofs.Loading.{allowed_is_loaded}

pub returns : goal.returns
returns c = allowed_is_loaded
