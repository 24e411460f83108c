use Rattle.std.proofs.Common.{List, refl, ap, ◌∙◌, subst}
use Rattle.std.proofs.lemmas.Result.{on_ok_weaker}
use Rattle.loading.specs.Read.{three_of}
use Rattle.reading.specs.Steps.{Standing}
use Rattle.reading.specs.Tables.{standings}
use Rattle.runs.specs.Book.{ask, told, refused}
use Rattle.book.specs.Books.{book_of}
use Rattle.book.specs.Answers.{ask_answer, refusal_model, verdict_model, coherence_model}
use Rattle.desk_book.specs.Asked.{AskLines}
use Rattle.desk_book.specs.Loaded.{bytes_of}
use Rattle.desk_book.specs.Told.{asked_so}
use Rattle.desk_book.proofs.Going.{ask_stays, asked_texts, still_loaded}
use Rattle.desk_book.proofs.Readings.{loaded_given}
use Rattle.desk_book.proofs.Telling.{refused_behind}
use Rattle.desk_book.proofs.desk.Desk.ask_by.Goals as goal

pub invariant_of-self : goal.invariant_of-self
invariant_of-self g c =
    let b = book_of c.args.self.now.book in
    let b' = book_of c.ask.new.self in
    let a = ask_answer c.ask.result c.ask.new.row.marks in
    record { kept = still_loaded b b' (bytes_of c.args.self.now.texts) (ask_stays (g.F.Finder.meaning c.args.finder.now) b b' a c.ask.ensures.goes) c.args.self.now.kept }

pub named-requires : goal.named-requires
named-requires g c =
    let b = book_of c.args.self.now.book in
    let b' = book_of c.ask.new.self in
    let a = c.in-Ok.told in
    let (t, has) = asked_texts (g.F.Finder.meaning c.args.finder.now) b b' (told (verdict_model a.verdict) (coherence_model a.coherence) a.pairs a.struck c.ask.new.row.marks) c.in-Ok.ensures.goes in
    loaded_given b (bytes_of c.args.self.now.texts) t has c.args.self.now.kept

pub returns-in_ok-texts-in-Ok : goal.returns-in_ok-texts-in-Ok
returns-in_ok-texts-in-Ok g c =
    let a = c.in-Ok.told in
    let v = verdict_model a.verdict in
    let co = coherence_model a.coherence in
    let row = c.ask.new.row.marks in
    let three = three_of c.in_ok-texts-in-Ok.texts in
    let names = ap standings c.entries.ensures ∙ c.atoms.ensures in
    let was = c.args.out.now.items in
    let is = c.add_told.new.out.items in
    record {
      answer = told v co a.pairs a.struck row;
      goes = c.in-Ok.ensures.goes;
      bytes = refl;
      lines = on_ok_weaker c.add_told.result (λ lines.
          let (shown, by, said) = subst (λ (l : List Standing). AskLines l v co a.pairs a.struck row was is) names lines in
          (_, asked_so three shown c.in_ok-texts-in-Ok.ensures by, said)) c.add_told.ensures;
    }

pub returns-in-Err : goal.returns-in-Err
returns-in-Err g c = record {
  answer = refused (refusal_model c.in-Err.refusal);
  goes = c.in-Err.ensures.goes;
  bytes = refl;
  lines = refused_behind c.add_refused.result (book_of c.ask.new.self) (bytes_of c.args.self.now.texts) (ask (g.F.Finder.meaning c.args.finder.now)) c.in-Err.refusal c.cause.result c.args.out.now.items c.add_refused.new.out.items c.cause.ensures c.add_refused.ensures;
}
