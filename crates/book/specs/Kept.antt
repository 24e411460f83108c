-- A book with one plan more struck.
use Rattle.std.specs.Prelude.{[], ◌∷◌, ◌++◌, None}
use Rattle.game.specs.Sets.{Row}
use Rattle.runs.specs.Book.{Book}

abbrev pub with_struck : Book → Row → Book
with_struck b m = record { texts = b.texts; struck = b.struck ++ (m ∷ []); sheet = b.sheet; shown = None }
