use Rattle.std.proofs.Common.{◌++◌, length, sym, ap, ◌∙◌}
use Rattle.std.proofs.lemmas.Result.{on_ok_weaker}
use Rattle.loading.specs.Read.{three_of}
use Rattle.reading.specs.Tables.{standings}
use Rattle.runs.specs.Book.{nothing_loaded, look_unloaded}
use Rattle.book.specs.Books.{book_of}
use Rattle.desk_text.specs.Lines.{reasons_line}
use Rattle.desk_book.specs.Loaded.{bytes_of}
use Rattle.desk_book.specs.Reasons.{reason_lines, unloaded_so, reasons_so}
use Rattle.desk_book.specs.Told.{refusal_line}
use Rattle.desk_book.proofs.Readings.{loaded_given}
use Rattle.desk_book.proofs.Reasoning.{none_there, some_there}
use Rattle.desk_book.proofs.desk.Desk.why.Goals as goal

pub returns-then-not-is_loaded : goal.returns-then-not-is_loaded
returns-then-not-is_loaded c =
    let none = none_there (book_of c.args.self.now.book).texts (sym c.is_loaded.ensures ∙ c.if-not-is_loaded.true) in
    on_ok_weaker c.add_unloaded.result (λ line. (refusal_line nothing_loaded, unloaded_so (look_unloaded none), line)) c.add_unloaded.ensures

pub named-requires : goal.named-requires
named-requires c =
    let d = c.args.self.now in
    let (t, has) = some_there (book_of d.book).texts (sym c.is_loaded.ensures ∙ c.if-not-is_loaded.false) in
    loaded_given (book_of d.book) (bytes_of d.texts) t has d.kept

pub returns : goal.returns
returns c =
    let b = book_of c.args.self.now.book in
    let (t, has) = some_there b.texts (sym c.is_loaded.ensures ∙ c.if-not-is_loaded.false) in
    let three = three_of c.in_ok-texts.texts in
    let names = ap standings c.entries.ensures ∙ c.atoms.ensures in
    on_ok_weaker c.add_sheet.result (λ lines. (_, reasons_so t three has c.in_ok-texts.ensures, lines ∙ ap (λ l. c.args.out.now.items ++ (reason_lines l b.sheet ++ reasons_line (length b.sheet))) names)) c.add_sheet.ensures
