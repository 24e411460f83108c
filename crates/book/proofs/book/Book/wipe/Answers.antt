use Rattle.std.proofs.Common.{sym, ◌∙◌, subst}
use Rattle.runs.specs.Book.{Goes, wipe, done, wipes, new_book}
use Rattle.book.specs.Opened.{open_book}
use Rattle.book.specs.Books.{open_or_new}
use Rattle.book.proofs.Calls.{at_open, at_new}
use Rattle.book.proofs.book.Book.wipe.Goals as goal

pub returns-in-Some : goal.returns-in-Some
returns-in-Some c =
    let o = c.in-Some.open in
    at_open (λ b. Goes wipe b done (open_book c.wiped.result)) c.args.self.now.open o (sym c.take.ensures.value ∙ c.in-Some.is) (subst (λ b. Goes wipe (open_book o) done b) (sym c.wiped.ensures) wipes)

pub returns-in_default : goal.returns-in_default
returns-in_default c =
    at_new (λ b. Goes wipe b done (open_or_new c.take.new.self)) c.args.self.now.open (sym c.take.ensures.value ∙ c.in_default.is)
    (at_new (λ b. Goes wipe new_book done b) c.take.new.self c.take.ensures.after wipes)
