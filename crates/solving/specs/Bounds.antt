-- Constraints that two rows break together.
use Rattle.std.specs.Prelude.{◌≡◌, List}
use Rattle.std.specs.List.{ContainsAt as Has}
use Rattle.game.specs.Sets.{Row}
use Rattle.game.specs.Rules.{Rule, none, Kept, PlainIn}

-- some constraint has none of its negated atoms in x, and all its plain atoms in s
abbrev pub Broken : List Rule → Row → Row → Type 0
Broken rules x s = (r : Rule) × Has rules r × ((r.head ≡ none) × (Kept x r × PlainIn s r))
