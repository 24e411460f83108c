use Rattle.std.proofs.Common.{List, ◌++◌, sym, ap, ◌∙◌, subst}
use Rattle.std.proofs.lemmas.Result.{on_ok_weaker}
use Rattle.loading.specs.Read.{three_of}
use Rattle.reading.specs.Steps.{Standing}
use Rattle.runs.specs.Book.{ask_unloaded}
use Rattle.book.specs.Books.{book_of}
use Rattle.desk_book.specs.Loaded.{bytes_of}
use Rattle.desk_book.specs.Winners.{WinnersTold, unloaded_so, winners_so}
use Rattle.desk_book.proofs.Going.{still_loaded}
use Rattle.desk_book.proofs.Readings.{loaded_given}
use Rattle.desk_book.proofs.Reasoning.{none_there, some_there}
use Rattle.desk_book.proofs.desk.Desk.all.Goals as goal

pub returns-then-not-is_loaded-clause-told : goal.returns-then-not-is_loaded-clause-told
returns-then-not-is_loaded-clause-told c =
    let none = none_there (book_of c.args.self.now.book).texts (sym c.is_loaded.ensures ∙ c.if-not-is_loaded.true) in
    on_ok_weaker c.add_unloaded.result (λ line. unloaded_so (ask_unloaded none) line) c.add_unloaded.ensures

pub named-requires : goal.named-requires
named-requires c =
    let d = c.args.self.now in
    let (t, has) = some_there (book_of d.book).texts (sym c.is_loaded.ensures ∙ c.if-not-is_loaded.false) in
    loaded_given (book_of d.book) (bytes_of d.texts) t has d.kept

pub strike_winners-requires : goal.strike_winners-requires
strike_winners-requires c = some_there (book_of c.args.self.now.book).texts (sym c.is_loaded.ensures ∙ c.if-not-is_loaded.false)

pub invariant_of-self-2 : goal.invariant_of-self-2
invariant_of-self-2 c =
    let d = c.args.self.now in
    record { kept = still_loaded (book_of d.book) (book_of c.strike_winners.new.book) (bytes_of d.texts) c.strike_winners.ensures.texts d.kept }

pub returns-clause-told : goal.returns-clause-told
returns-clause-told c =
    let b = book_of c.args.self.now.book in
    let b' = book_of c.strike_winners.new.book in
    let was = c.args.out.now.items in
    let is = c.strike_winners.new.out.items in
    on_ok_weaker c.strike_winners.result (λ told. winners_so (three_of c.in_ok-texts.texts) c.in_ok-texts.ensures (subst (λ (l : List Standing). WinnersTold l b b' was is) c.atoms.ensures told)) c.strike_winners.ensures.told
