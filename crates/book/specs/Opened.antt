-- What a load opens.
use Rattle.std.specs.Prelude.{◌≡◌, ℕ, ◌≤◌, ◌⊎◌, List, length, Some, Ok, Err, Result}
use Rattle.game.specs.Sides.{Side, side_number}
use Rattle.refusals.specs.declared.fault.Fault.{Fault}
use Rattle.refusals.specs.declared.fault.Fault.TheVariants.{NoMemory}
use Rattle.reading.specs.Loads.{Three, Loads}
use Rattle.runs.specs.Book as runs
use Rattle.book.specs.declared.open.Open.{Open}
use Rattle.book.specs.Models.{book_from}

abbrev pub open_book : Open → runs.Book
open_book o = book_from o.loaded o.struck o.sheet o.shown

-- the texts are read, and nothing is struck, noted or shown; or they are refused; or memory was wanting, which it can be only for a right side and a plan text that is not too long
abbrev pub Opens : ℕ → List ℕ → List ℕ → List ℕ → Result Open Fault → Type 0
Opens i p f s (Ok o) = (x : Side × Three) × Loads i p f s (Ok x) × (open_book o ≡ runs.opened (Some (runs.texts_of x)))
Opens i p f s (Err e) = ((e ≡ NoMemory) × (((x : Side) × (side_number x ≡ i)) × (length p ≤ 16384))) ⊎ Loads i p f s (Err e)
