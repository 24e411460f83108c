-- What is asked of rows of marks besides union and inclusion.
use Rattle.std.specs.Prelude.{ℕ, suc, cond, not, ◌&&◌, [], ◌∷◌}
use Rattle.game.specs.Sets.{Row}

-- how many marks are set
abbrev pub marked : Row → ℕ
marked [] = 0
marked (x ∷ s) = cond x (suc (marked s)) (marked s)

-- what is marked in the first row and not in the second
abbrev pub minus : Row → Row → Row
minus [] t = []
minus (x ∷ s) [] = x ∷ s
minus (x ∷ s) (y ∷ t) = (x && not y) ∷ minus s t
