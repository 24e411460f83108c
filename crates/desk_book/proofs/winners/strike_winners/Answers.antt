use Rattle.std.proofs.Common.{refl, ◌∙◌, arith}
use Rattle.reading.specs.Tables.{standings_of}
use Rattle.book.specs.Books.{book_of}
use Rattle.desk_book.proofs.Winning.{one_more_struck, end_stays, go_on}
use Rattle.desk_book.proofs.winners.strike_winners.Goals as goal

pub loop-plan-smaller : goal.loop-plan-smaller
loop-plan-smaller c =
    let more = one_more_struck (book_of c.loop-plan.book) (book_of c.next_winner.new.book) c.in-Winner.plan c.in-Winner.ensures in
    omega (arith, more.1, more.2)

pub loop-plan-preserved : goal.loop-plan-preserved
loop-plan-preserved c =
    go_on (standings_of c.args.atoms.now) (book_of c.args.book.now) (book_of c.loop-plan.book) (book_of c.next_winner.new.book) c.args.out.now.items c.loop-plan.out.items c.loop-plan.plans c.loop-plan.invariant c.in-Winner.plan c.add_set.new.out.items c.in-Winner.ensures c.in_ok-add_set-in-Winner.ensures

pub returns-in_err-add_set-in-Winner-clause-texts : goal.returns-in_err-add_set-in-Winner-clause-texts
returns-in_err-add_set-in-Winner-clause-texts c =
    let more = one_more_struck (book_of c.loop-plan.book) (book_of c.next_winner.new.book) c.in-Winner.plan c.in-Winner.ensures in
    more.0 ∙ c.loop-plan.invariant.texts

pub returns-in-End-clause-texts : goal.returns-in-End-clause-texts
returns-in-End-clause-texts c =
    end_stays (book_of c.loop-plan.book) (book_of c.next_winner.new.book) _ c.in-End.ending c.in-End.ensures refl ∙ c.loop-plan.invariant.texts
