use Rattle.std.proofs.Common.{rules, ◌≡◌, ◌++◌, sym, refl, ap, ◌∙◌, subst, ⊎_elim, lit<}
use Rattle.std.proofs.lemmas.Result.{on_ok_weaker}
use Rattle.loading.specs.Read.{three_of}
use Rattle.reading.specs.Tables.{standings}
use Rattle.runs.specs.Book.{look, refused, wrote}
use Rattle.book.specs.Books.{book_of}
use Rattle.book.specs.Answers.{refusal_model}
use Rattle.desk_text.specs.Lines.{pair_lines, struck_plan_line}
use Rattle.desk_book.specs.Loaded.{bytes_of}
use Rattle.desk_book.specs.Told.{ToldAs, pair_so, struck_plan_so}
use Rattle.desk_book.proofs.Looking.{any_kind, same_kind, looked}
use Rattle.desk_book.proofs.Readings.{loaded_given}
use Rattle.desk_book.proofs.Telling.{refused_behind}
use Rattle.desk_book.proofs.desk.Desk.look.Goals as goal

pub returns-in-Err : goal.returns-in-Err
returns-in-Err c =
    let d = c.args.self.now in
    let k = c.args.kind in
    let n = c.args.place in
    let b = book_of d.book in
    record {
      answer = refused (refusal_model c.in-Err.refusal);
      goes = any_kind c.kind_byte-kind.result k n b b (refused (refusal_model c.in-Err.refusal)) c.kind_byte-kind.ensures c.in-Err.ensures.goes;
      bytes = refl;
      lines = refused_behind c.add_refused.result b (bytes_of d.texts) (look k n) c.in-Err.refusal c.cause.result c.args.out.now.items c.add_refused.new.out.items c.cause.ensures c.add_refused.ensures;
    }

pub named-requires : goal.named-requires
named-requires c =
    let d = c.args.self.now in
    let b = book_of d.book in
    let ((t, has), kinds) = looked c.kind_byte-kind.result c.args.place b b (wrote c.look.new.first.marks c.look.new.second.marks) c.in_default.ensures.goes in
    loaded_given b (bytes_of d.texts) t has d.kept

pub returns-in_err-texts : goal.returns-in_err-texts
returns-in_err-texts c =
    let d = c.args.self.now in
    let k = c.args.kind in
    let n = c.args.place in
    let b = book_of d.book in
    let x = c.look.new.first.marks in
    let y = c.look.new.second.marks in
    record {
      answer = wrote x y;
      goes = any_kind c.kind_byte-kind.result k n b b (wrote x y) c.kind_byte-kind.ensures c.in_default.ensures.goes;
      bytes = refl;
      lines = search rules;
    }

pub returns-then-kind-eq1 : goal.returns-then-kind-eq1
returns-then-kind-eq1 c =
    let d = c.args.self.now in
    let k = c.args.kind in
    let n = c.args.place in
    let b = book_of d.book in
    let w = bytes_of d.texts in
    let x = c.look.new.first.marks in
    let y = c.look.new.second.marks in
    let three = three_of c.in_ok-texts.texts in
    let one = same_kind c.kind_byte-kind.result k 1 c.kind_byte-kind.ensures c.if-kind-eq1.true (lit< tt) in
    let names = ap standings c.entries-atoms.ensures ∙ c.atoms.ensures in
    record {
      answer = wrote x y;
      goes = any_kind c.kind_byte-kind.result k n b b (wrote x y) c.kind_byte-kind.ensures c.in_default.ensures.goes;
      bytes = refl;
      lines = on_ok_weaker c.add_pair.result (λ lines. (pair_lines three.atoms x y, subst (λ j. ToldAs b w (look j n) (wrote x y) (pair_lines three.atoms x y)) (sym one) (pair_so three c.in_ok-texts.ensures), lines ∙ ap (λ l. c.args.out.now.items ++ pair_lines l x y) names)) c.add_pair.ensures;
    }

pub returns : goal.returns
returns c =
    let d = c.args.self.now in
    let k = c.args.kind in
    let n = c.args.place in
    let b = book_of d.book in
    let w = bytes_of d.texts in
    let x = c.look.new.first.marks in
    let y = c.look.new.second.marks in
    let three = three_of c.in_ok-texts.texts in
    let (texts, kinds) = looked c.kind_byte-kind.result n b b (wrote x y) c.in_default.ensures.goes in
    let two : c.kind_byte-kind.result ≡ 2 = ⊎_elim (λ one. absurd (c.if-kind-eq1.false one)) (λ two. two) kinds in
    let is = same_kind c.kind_byte-kind.result k 2 c.kind_byte-kind.ensures two (lit< tt) in
    let names = ap standings c.entries-atoms.ensures ∙ c.atoms.ensures in
    record {
      answer = wrote x y;
      goes = any_kind c.kind_byte-kind.result k n b b (wrote x y) c.kind_byte-kind.ensures c.in_default.ensures.goes;
      bytes = refl;
      lines = on_ok_weaker c.add_struck_plan.result (λ lines. (struck_plan_line three.atoms x, subst (λ j. ToldAs b w (look j n) (wrote x y) (struck_plan_line three.atoms x)) (sym is) (struck_plan_so three c.in_ok-texts.ensures), lines ∙ ap (λ l. c.args.out.now.items ++ struck_plan_line l x) names)) c.add_struck_plan.ensures;
    }
