use Rattle.std.proofs.Common.{◌-◌}
use Rattle.game.specs.Sets.{Row}
use Rattle.game.specs.Derives.{Settles}
use Rattle.programs.specs.Programs.{rules_of}
use Rattle.solving.specs.Levels.{level_in}
use Rattle.solving.proofs.stratified.Stratified.settle.Given as goal

-- settling the levels that are left comes to what settling all of them does
abbrev pub invariant-loop-level : goal.invariant-loop-level
invariant-loop-level g l =
    (u : Row) → Settles g.row.N (rules_of l.self.program) (level_in l.self.levels.of) l.level (g.row.N - l.level) l.set.marks u
    → Settles g.row.N (rules_of l.self.program) (level_in l.self.levels.of) 0 g.row.N l.given.marks u
