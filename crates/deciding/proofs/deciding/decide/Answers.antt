use Rattle.std.proofs.Common.{Err, sym, refl, ap, ◌∙◌, subst}
use Rattle.std.proofs.lemmas.Result.{err_from_is_err_and}
use Rattle.report.specs.Reported.{Reported}
use Rattle.runs.specs.Book.{Goes, load, done, told, refused, not_loaded}
use Rattle.book.specs.Answers.{verdict_model, coherence_model, refusal_model}
use Rattle.book.specs.Books.{book_of}
use Rattle.book.specs.Models.{row_shown}
use Rattle.deciding.specs.Decided.{Decided, not_taken, reports, Fits}
use Rattle.deciding.proofs.Asking.{has_texts, shows, shown_is, reported_fits}
use Rattle.deciding.proofs.deciding.decide.Goals as goal

pub returns-in_err-load : goal.returns-in_err-load
returns-in_err-load c =
    let p = err_from_is_err_and c.from_residual.result c.from_residual.ensures.1 in
    let e = c.in_err-load.field-0.0 in
    let (memory, goes) = c.in_err-load.ensures in
    record {
      decided =
          subst (λ r. Decided c.args.side c.args.sources.plan.now c.args.sources.faults.now c.args.sources.site.now c.args.buffer.now c.args.buffer.now r) (sym (p.1 ∙ ap Err p.2))
          (not_taken memory e (book_of c.load.new.self) (subst (λ b. Goes (load memory c.args.side c.args.sources.plan.now c.args.sources.faults.now c.args.sources.site.now) b (refused (not_loaded e)) (book_of c.load.new.self)) c.new-book.ensures.empty goes) refl);
      fits = subst (λ r. Fits c.args.buffer.now r) (sym (p.1 ∙ ap Err p.2)) tt;
    }

pub unreachable-requires : goal.unreachable-requires
unreachable-requires c =
    let (memory, goes) = c.in_ok-load.ensures in
    let (t, has) = has_texts memory c.args.side c.args.sources.plan.now c.args.sources.faults.now c.args.sources.site.now _ (book_of c.load.new.self) done goes in
    shows (book_of c.load.new.self) (book_of c.ask.new.self) (refused (refusal_model c.in_default.field-0)) c.in_default.ensures.goes t has

pub returns : goal.returns
returns c =
    let (memory, goes) = c.in_ok-load.ensures in
    let b = book_of c.load.new.self in
    let b' = book_of c.ask.new.self in
    let a = c.in-Ok.told in
    let asked = c.in-Ok.ensures.goes in
    let (v-is, r-is) = shows b b' (told (verdict_model a.verdict) (coherence_model a.coherence) a.pairs a.struck c.ask.new.row.marks) asked in
    record {
      decided =
          reports memory b b' (verdict_model a.verdict) (coherence_model a.coherence) a.pairs a.struck c.ask.new.row.marks c.plan_shown-shown.result c.report.result
          (subst (λ z. Goes (load memory c.args.side c.args.sources.plan.now c.args.sources.faults.now c.args.sources.site.now) z done b) c.new-book.ensures.empty goes) asked
          (shown_is b'.shown (row_shown c.plan_shown-shown.result) (verdict_model a.verdict) c.ask.new.row.marks v-is r-is c.plan_shown-shown.ensures)
          (subst (λ x. Reported c.args.sources.plan.now c.args.sources.faults.now c.args.sources.site.now x c.plan_shown-shown.result c.args.buffer.now c.report.new.buffer c.report.result) c.is_coherent.ensures c.report.ensures);
      fits = reported_fits c.args.sources.plan.now c.args.sources.faults.now c.args.sources.site.now c.is_coherent.result c.plan_shown-shown.result c.args.buffer.now c.report.new.buffer c.report.result c.report.ensures;
    }
