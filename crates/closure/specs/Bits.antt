-- The set that the bits of a number tell.
use Rattle.std.specs.Prelude.{◌≡◌, ℕ, ◌==◌, length}
use Rattle.std.specs.Int.{bit_at}
use Rattle.game.specs.Sets.{Row}
use Rattle.game.proofs.Rows.{row, length-row}

-- of the atoms below 96, those whose bit stands
unfoldable pub bit_row : ℕ → Row
bit_row n = row 96 (λ a. bit_at n a == 1)

pub length-bit_row : (n : ℕ) → length (bit_row n) ≡ 96
unfolding bit_row
length-bit_row n = length-row 96 (λ a. bit_at n a == 1)
