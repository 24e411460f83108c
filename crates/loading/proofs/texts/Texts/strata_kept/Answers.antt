use Rattle.std.proofs.Common.{subst}
use Rattle.game.specs.Strata.{Stratified}
use Rattle.loading.proofs.texts.Texts.strata_kept.Goals as goal

pub returns-in-None : goal.returns-in-None
returns-in-None c = subst Stratified c.program.ensures c.in-None.ensures
