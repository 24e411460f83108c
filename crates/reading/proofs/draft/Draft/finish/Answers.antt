use Rattle.std.proofs.lemmas.Bool.{both_ways}
use Rattle.reading.proofs.Limiting.{within_fits}
use Rattle.reading.proofs.draft.Draft.finish.Goals as goal

pub unreachable-requires : goal.unreachable-requires
unreachable-requires c = both_ways _ c.in_default.ensures (within_fits _ c.requires)
