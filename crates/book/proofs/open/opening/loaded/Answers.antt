use Rattle.std.proofs.Common.{sym, subst}
use Rattle.game.specs.Strata.{Stratified}
use Rattle.solving.proofs.Deciding.{not_both}
use Rattle.programs.specs.Programs.{rules_of}
use Rattle.book.proofs.open.opening.loaded.Goals as goal

pub unreachable-requires : goal.unreachable-requires
unreachable-requires c = not_both (rules_of c.into_programs-programs.result.site) c.in_default.field-0 (subst Stratified (sym c.into_programs-programs.ensures.2) c.requires.1) c.in_default.ensures
