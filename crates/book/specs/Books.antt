-- The book that a value of the code stands for.
use Rattle.std.specs.Prelude.{◌≡◌, ℕ, Bool, List, Some, None, Ok, Err, Option, Result}
use Rattle.game.specs.Sets.{Row}
use Rattle.refusals.specs.declared.fault.Fault.{Fault}
use Rattle.runs.specs.Book as runs
use Rattle.book.specs.declared.open.Open.{Open}
use Rattle.book.specs.declared.book.Book.{Book}
use Rattle.book.specs.Opened.{open_book}
use Rattle.book.specs.Answers.{load_answer}

abbrev pub open_or_new : Option Open → runs.Book
open_or_new None = runs.new_book
open_or_new (Some o) = open_book o

abbrev pub book_of : Book → runs.Book
book_of b = open_or_new b.open

-- a refused call leaves the row as it was
abbrev pub Untouched : {A E : Type 0} → Result A E → Row → Row → Type 0
Untouched (Ok _) was is = Unit {0}
Untouched (Err _) was is = is ≡ was

-- a load, with or without the memory that it needs
abbrev pub LoadsTo : ℕ → List ℕ → List ℕ → List ℕ → runs.Book → Result (Unit {0}) Fault → runs.Book → Type 0
LoadsTo side plan faults site b r b' = (memory : Bool) × runs.Goes (runs.load memory side plan faults site) b (load_answer r) b'
