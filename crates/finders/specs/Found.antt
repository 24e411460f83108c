-- A set that was found, as a mask and as a row.
use Rattle.std.specs.Prelude.{◌≡◌, Some, None, Option}
use Rattle.closure.specs.Bits.{bit_row}
use Rattle.closure.specs.declared.mask.Mask.{Mask}
use Rattle.closure.specs.declared.row.Row as code

-- none of both, or the same set
abbrev pub AsRow : Option Mask → Option (code.Row 96) → Type 0
AsRow None None = Unit {0}
AsRow None (Some row) = ⊥
AsRow (Some set) None = ⊥
AsRow (Some set) (Some row) = row.marks ≡ bit_row set.bits
