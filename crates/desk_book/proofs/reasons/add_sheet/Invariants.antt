use Rattle.std.proofs.Common.{◌≡◌, ◌++◌, take, vec_items}
use Rattle.reading.specs.Tables.{standings}
use Rattle.book.specs.Books.{book_of}
use Rattle.desk_book.specs.Reasons.{reason_lines}
use Rattle.desk_book.proofs.reasons.add_sheet.Given as goal

-- the pairs before this place have their lines
abbrev pub invariant-loop-place : goal.invariant-loop-place
invariant-loop-place l = vec_items l.out ≡ vec_items l.initial.out ++ reason_lines (standings l.atoms) (take l.place (book_of l.book).sheet)
