use Rattle.std.proofs.Common.{◌++◌, refl, ap, ◌∙◌}
use Rattle.std.proofs.lemmas.Result.{on_ok_weaker}
use Rattle.runs.specs.Book.{strike, done, refused}
use Rattle.book.specs.Books.{book_of}
use Rattle.book.specs.Answers.{strike_answer, refusal_model}
use Rattle.desk_text.specs.Lines.{struck_line}
use Rattle.desk_book.specs.Loaded.{bytes_of}
use Rattle.desk_book.specs.Told.{struck_so}
use Rattle.desk_book.proofs.Going.{strike_stays, still_loaded}
use Rattle.desk_book.proofs.Telling.{refused_behind}
use Rattle.desk_book.proofs.desk.Desk.strike.Goals as goal

pub invariant_of-self : goal.invariant_of-self
invariant_of-self c =
    let b = book_of c.args.self.now.book in
    let b' = book_of c.strike.new.self in
    record { kept = still_loaded b b' (bytes_of c.args.self.now.texts) (strike_stays b b' (strike_answer c.strike.result) c.strike.ensures) c.args.self.now.kept }

pub returns-in-Ok : goal.returns-in-Ok
returns-in-Ok c = record {
  answer = done;
  goes = c.in-Ok.ensures;
  bytes = refl;
  lines = on_ok_weaker c.add_struck.result (λ line. (_, struck_so, line ∙ ap (λ n. c.args.out.now.items ++ struck_line n) c.struck.ensures)) c.add_struck.ensures;
}

pub returns-in-Err : goal.returns-in-Err
returns-in-Err c = record {
  answer = refused (refusal_model c.in-Err.refusal);
  goes = c.in-Err.ensures;
  bytes = refl;
  lines = refused_behind c.add_refused.result (book_of c.strike.new.self) (bytes_of c.args.self.now.texts) strike c.in-Err.refusal c.cause.result c.args.out.now.items c.add_refused.new.out.items c.cause.ensures c.add_refused.ensures;
}
