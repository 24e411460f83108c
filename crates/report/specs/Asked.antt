-- The side that a byte asks for: the digit 1 or the digit 2.
use Rattle.std.specs.Prelude.{ℕ, cond, Some, None, Option, ◌==◌}

abbrev pub side_asked : Option ℕ → ℕ
side_asked None = 0
side_asked (Some b) = cond (b == 49) 1 (cond (b == 50) 2 0)
