use Rattle.std.proofs.Common.{◌≡◌, length}
use Rattle.programs.specs.Programs.{rules_of}
use Rattle.solving.specs.Levels.{Ranked}
use Rattle.solving.proofs.levels.rank.Given as goal

abbrev pub invariant-loop-atom : goal.invariant-loop-atom
invariant-loop-atom g l = (length l.level-items ≡ g.row.N) × Ranked (rules_of l.program) g.row.N l.atom l.level-items
