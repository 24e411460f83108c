-- What is decided of a side and three texts.
use Rattle.std.specs.Prelude.{◌≡◌, ℕ, ◌≤◌, Bool, true, false, List, length, Some, None, Ok, Err, Option, Result}
use Rattle.closure.specs.declared.row.Row as code
use Rattle.refusals.specs.declared.fault.Fault.{Fault}
use Rattle.finders.specs.Supplied.{branching}
use Rattle.report.specs.Reported.{Reported}
use Rattle.runs.specs.Book.{Book, Coherence, coherent, incoherent, Verdict, plan_shown, no_plan, Goes, load, ask, done, told, refused, not_loaded, new_book}
use Rattle.game.specs.Sets.{Row}
use Rattle.book.specs.Models.{row_shown}

abbrev pub says_coherent : Coherence → Bool
says_coherent coherent = true
says_coherent incoherent = false

-- the plan shown, by the verdict and the row that an ask leaves
abbrev pub ShownBy : Verdict → Row → Option Row → Type 0
ShownBy plan_shown row o = o ≡ Some row
ShownBy no_plan row o = o ≡ None

-- a new book refuses the load; or it takes it, an ask with the branching finder is put to it, and what it shows and says is reported
pub data Decided (side : ℕ) (p f s was is : List ℕ) : Result ℕ Fault → Type 0 where
  not_taken : (memory : Bool) (e : Fault) (b : Book) → Goes (load memory side p f s) new_book (refused (not_loaded e)) b → is ≡ was → Decided side p f s was is (Err e)
  reports : (memory : Bool) (b b' : Book) (v : Verdict) (c : Coherence) (pairs struck : ℕ) (row : Row) (shown : Option (code.Row 96)) (r : Result ℕ Fault) → Goes (load memory side p f s) new_book done b → Goes (ask (branching 96)) b (told v c pairs struck row) b' → row_shown shown ≡ b'.shown → Reported p f s (says_coherent c) shown was is r → Decided side p f s was is r

-- what is written is within the buffer
abbrev pub Fits : List ℕ → Result ℕ Fault → Type 0
Fits buffer (Ok n) = n ≤ length buffer
Fits buffer (Err e) = Unit {0}
