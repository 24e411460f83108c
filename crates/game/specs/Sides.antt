-- The two sides of the game.
use Rattle.std.specs.Prelude.{ℕ}

-- `some_plan` reads: some plan, every reply, the site text holds
-- `every_plan` reads: every plan, some reply, the site text holds
pub data Side : Type 0 where
  some_plan : Side
  every_plan : Side

-- the number by which a side is asked for
abbrev pub side_number : Side → ℕ
side_number some_plan = 1
side_number every_plan = 2
