-- The rules of the texts before a text.
use Rattle.std.specs.Prelude.{List, ◌++◌, Some, None, Option}
use Rattle.std.specs.Borrow.{Bor}
use Rattle.game.specs.Rules.{Rule}
use Rattle.programs.specs.declared.program.Program.{Program}
use Rattle.programs.specs.Programs.{rules_of}

abbrev pub earlier : Program 96 → Option (Bor (Program 96)) → List Rule
earlier plan None = rules_of plan
earlier plan (Some faults) = rules_of plan ++ rules_of faults.now
