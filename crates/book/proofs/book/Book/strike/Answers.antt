use Rattle.std.proofs.Common.{vec_items, sym, refl, ap, ◌∙◌, subst, arith}
use lib.ListN.{length-map}
use Rattle.closure.specs.declared.row.Row as code
use Rattle.runs.specs.Book.{Goes, strike, refused, done, nothing_loaded, none_shown, struck_full, strikes, strike_unloaded, strike_none, strike_full, new_book}
use Rattle.book.specs.Models.{texts_from, row_shown}
use Rattle.book.specs.Opened.{open_book}
use Rattle.book.specs.Books.{open_or_new}
use Rattle.book.proofs.Calls.{at_open, at_new}
use Rattle.book.proofs.book.Book.strike.Goals as goal

pub returns-in_default : goal.returns-in_default
returns-in_default c =
    at_new (λ b. Goes strike b (refused nothing_loaded) (open_or_new c.take.new.self)) c.args.self.now.open (sym c.take.ensures.value ∙ c.in_default.is)
    (at_new (λ b. Goes strike new_book (refused nothing_loaded) b) c.take.new.self c.take.ensures.after (strike_unloaded refl))

pub returns-in_default-shown : goal.returns-in_default-shown
returns-in_default-shown c =
    let o = c.in-Some.open in
    at_open (λ b. Goes strike b (refused none_shown) (open_book o)) c.args.self.now.open o (sym c.take.ensures.value ∙ c.in-Some.is) (strike_none (texts_from o.loaded) refl (ap row_shown c.in_default-shown.is))

pub returns-then-len-ge-MOST_STRUCK : goal.returns-then-len-ge-MOST_STRUCK
returns-then-len-ge-MOST_STRUCK c =
    let o = c.in-Some.open in
    at_open (λ b. Goes strike b (refused struck_full) (open_book o)) c.args.self.now.open o (sym c.take.ensures.value ∙ c.in-Some.is)
    (strike_full (texts_from o.loaded) c.in-Some-shown.row.marks refl (ap row_shown c.in-Some-shown.is) (omega (arith, c.if-len-ge-MOST_STRUCK.true, c.len.ensures, o.struck.ok.0, length-map (vec_items o.struck) (λ (r : code.Row 96). r.marks))))

pub returns : goal.returns
returns c =
    let o = c.in-Some.open in
    at_open (λ b. Goes strike b done (open_book c.with_struck.result)) c.args.self.now.open o (sym c.take.ensures.value ∙ c.in-Some.is)
    (subst (λ b. Goes strike (open_book o) done b) (sym c.with_struck.ensures) (strikes (texts_from o.loaded) c.in-Some-shown.row.marks refl (ap row_shown c.in-Some-shown.is) (omega (arith, c.if-len-ge-MOST_STRUCK.false, c.len.ensures, o.struck.ok.0, length-map (vec_items o.struck) (λ (r : code.Row 96). r.marks)))))
