-- The rules of a program.
use Rattle.std.specs.Prelude.{ℕ, List, vec_items}
use Rattle.game.specs.Rules.{Rule}
use Rattle.programs.specs.Model.{models}
use Rattle.programs.specs.declared.program.Program.{Program}

abbrev pub rules_of : {n : ℕ} → Program n → List Rule
rules_of p = models (vec_items p.rules)
