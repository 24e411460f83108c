use Rattle.std.proofs.Common.{subst}
use Rattle.runs.specs.Book.{Goes, ask, told, refused}
use Rattle.finders.specs.Supplied.{branching}
use Rattle.book.specs.declared.told.Verdict as code
use Rattle.book.specs.Answers.{verdict_model, coherence_model, refusal_model}
use Rattle.book.specs.Books.{book_of}
use Rattle.deciding.proofs.Asking.{shows}
use Rattle.desk_book.specs.Winners.{no_more}
use Rattle.desk_book.proofs.Winning.{one_too_many}
use Rattle.desk_book.proofs.winners.next_winner.Goals as goal

pub unreachable-requires : goal.unreachable-requires
unreachable-requires c =
    let (t, has) = c.requires in
    shows (book_of c.args.book.now) (book_of c.ask.new.self) (refused (refusal_model c.in_default.field-0)) c.in_default.ensures.goes t has

pub returns-in-NoPlan : goal.returns-in-NoPlan
returns-in-NoPlan c =
    let b = book_of c.args.book.now in
    let b' = book_of c.ask.new.self in
    let a = c.in-Ok.told in
    let co = coherence_model a.coherence in
    let row = c.ask.new.row.marks in
    no_more (co, a.pairs, a.struck, row, subst (λ (v : code.Verdict). Goes (ask (branching 96)) b (told (verdict_model v) co a.pairs a.struck row) b') c.in-NoPlan.is c.in-Ok.ensures.goes)

pub returns-in-Err : goal.returns-in-Err
returns-in-Err c =
    let b = book_of c.args.book.now in
    let b' = book_of c.ask.new.self in
    let a = c.in-Ok.told in
    let co = coherence_model a.coherence in
    let row = c.ask.new.row.marks in
    one_too_many b b' (book_of c.strike.new.self) row (refusal_model c.in-Err.field-0) c.requires
    (co, a.pairs, a.struck, subst (λ (v : code.Verdict). Goes (ask (branching 96)) b (told (verdict_model v) co a.pairs a.struck row) b') c.in-PlanShown.is c.in-Ok.ensures.goes) c.in-Err.ensures
