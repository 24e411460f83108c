use Rattle.std.proofs.Common.{is_ok, ◌++◌, refl, ap, ◌∙◌}
use Rattle.runs.specs.Book.{wipe, done}
use Rattle.book.specs.Books.{book_of}
use Rattle.desk_text.specs.Lines.{wiped_line}
use Rattle.desk_book.specs.Loaded.{bytes_of}
use Rattle.desk_book.specs.Told.{wiped_so}
use Rattle.desk_book.proofs.Going.{wipe_stays, still_loaded}
use Rattle.desk_book.proofs.desk.Desk.wipe.Goals as goal

pub invariant_of-self : goal.invariant_of-self
invariant_of-self c =
    let b = book_of c.args.self.now.book in
    let b' = book_of c.wipe.new.self in
    record { kept = still_loaded b b' (bytes_of c.args.self.now.texts) (wipe_stays b b' done c.wipe.ensures) c.args.self.now.kept }

pub returns : goal.returns
returns c = record {
  answer = done;
  goes = c.wipe.ensures;
  bytes = refl;
  lines = (wiped_line, wiped_so, c.in_ok-extend_from_slice.ensures.items ∙ ap (λ l. c.args.out.now.items ++ l) c.wiped_line.ensures);
}
