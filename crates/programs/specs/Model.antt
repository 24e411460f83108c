-- The rule that a value of the code stands for.
use Rattle.std.specs.Prelude.{ℕ, Option, Some, None, List, map, vec_items}
use Rattle.game.specs.Rules as game
use Rattle.programs.specs.declared.rule.Rule.{Rule}

abbrev pub head_model : Option ℕ → game.Head
head_model None = game.none
head_model (Some a) = game.atom a

abbrev pub model : Rule → game.Rule
model r = record { head = head_model r.head; plain = vec_items r.plain; negated = vec_items r.negated }

abbrev pub models : List Rule → List game.Rule
models rs = map model rs
