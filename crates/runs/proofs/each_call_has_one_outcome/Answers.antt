use Rattle.runs.proofs.each_call_has_one_outcome.Goals as goal
use Rattle.runs.proofs.Kept.{each_call_has_one_outcome}

pub returns : goal.returns
returns c = each_call_has_one_outcome
