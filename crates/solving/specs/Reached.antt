-- The atoms that can be reached from an atom, as a row.
use Rattle.std.specs.Prelude.{ℕ, false, List, Decides, slice_index_or}
use Rattle.game.specs.Sets.{Row}
use Rattle.game.specs.Rules.{Rule}
use Rattle.game.specs.Strata.{Reaches}

abbrev pub Reached : List Rule → ℕ → Row → Type 0
Reached rules a s = (b : ℕ) → Decides (slice_index_or s b false) (Reaches rules a b)
