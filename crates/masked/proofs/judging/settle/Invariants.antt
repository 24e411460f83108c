use Rattle.std.proofs.Common.{◌-◌}
use Rattle.game.specs.Sets.{Row}
use Rattle.game.specs.Derives.{Settles}
use Rattle.closure.specs.Bits.{bit_row}
use Rattle.programs.specs.Programs.{rules_of}
use Rattle.solving.specs.Levels.{level_in}
use Rattle.masked.proofs.judging.settle.Given as goal

-- settling the levels that are left comes to what settling all of them does
abbrev pub invariant-loop-level : goal.invariant-loop-level
invariant-loop-level l =
    let rules = rules_of l.stratified.program in
    let level = level_in l.stratified.levels.of in
    (u : Row) → Settles 96 rules level l.level (96 - l.level) (bit_row l.set.bits) u → Settles 96 rules level 0 96 (bit_row l.fn.given.bits) u
