use Rattle.grammar.proofs.one_loading.Goals as goal
use Rattle.grammar.proofs.Outcomes.{one_loading}

pub returns : goal.returns
returns c = one_loading
