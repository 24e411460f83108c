use Rattle.game.proofs.coherence_is_as_published.Goals as goal
use Rattle.game.proofs.Published.{coherence_is_as_published}

pub returns : goal.returns
returns c = coherence_is_as_published
