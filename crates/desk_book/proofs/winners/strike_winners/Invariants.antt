use Rattle.std.proofs.Common.{◌-◌, length, vec_items}
use Rattle.reading.specs.Tables.{standings_of}
use Rattle.book.specs.Books.{book_of}
use Rattle.desk_book.proofs.Winning.{OnTheWay}
use Rattle.desk_book.proofs.winners.strike_winners.Given as goal

abbrev pub invariant-loop-plan : goal.invariant-loop-plan
invariant-loop-plan l = OnTheWay (standings_of l.atoms) (book_of l.initial.book) (book_of l.book) (vec_items l.initial.out) (vec_items l.out) l.plans

-- how many more can be struck
abbrev pub decreases-loop-plan : goal.decreases-loop-plan
decreases-loop-plan l = 64 - length (book_of l.book).struck
