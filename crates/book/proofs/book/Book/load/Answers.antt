use Rattle.std.proofs.Common.{true, Err, sym, ap, ◌∙◌, subst}
use Rattle.std.proofs.lemmas.Result.{err_from_is_err_and}
use Rattle.runs.specs.Book as runs
use Rattle.runs.specs.Book.{Goes, load, done, loads}
use Rattle.book.specs.Books.{book_of, LoadsTo}
use Rattle.book.proofs.Calls.{load_refusal}
use Rattle.book.proofs.book.Book.load.Goals as goal

pub returns-in_err-open : goal.returns-in_err-open
returns-in_err-open c =
    let p = err_from_is_err_and c.from_residual.result c.from_residual.ensures.1 in
    let b = book_of c.args.self.now in
    subst (λ r. LoadsTo c.args.side c.args.sources.plan.now c.args.sources.faults.now c.args.sources.site.now b r b) (sym (p.1 ∙ ap Err p.2))
    (load_refusal c.args.side c.args.sources.plan.now c.args.sources.faults.now c.args.sources.site.now b c.in_err-open.field-0.0 c.in_err-open.ensures)

pub returns : goal.returns
returns c =
    let (x, l, is) = c.in_ok-open.ensures in
    (true, subst (λ (b : runs.Book). Goes (load true c.args.side c.args.sources.plan.now c.args.sources.faults.now c.args.sources.site.now) (book_of c.args.self.now) done b) (sym is) (loads x l))
