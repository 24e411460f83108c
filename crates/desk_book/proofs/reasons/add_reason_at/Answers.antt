use Rattle.std.proofs.Common.{◌++◌, sym, refl, ap₂, ◌∙◌, ⊎_elim, arith}
use Rattle.std.proofs.lemmas.Result.{on_ok_weaker}
use Rattle.reading.specs.Tables.{standings}
use Rattle.runs.specs.Book.{wrote, refused}
use Rattle.book.specs.Answers.{refusal_model}
use Rattle.book.specs.Books.{book_of}
use Rattle.desk_text.specs.Lines.{reason_line}
use Rattle.desk_book.proofs.Reasoning.{pair_at, empty_sheet}
use Rattle.desk_book.proofs.reasons.add_reason_at.Goals as goal

pub unreachable-requires : goal.unreachable-requires
unreachable-requires c =
    let b = book_of c.args.book.now in
    ⊎_elim (λ none. omega (arith, c.requires, empty_sheet c.args.book.now.open none)) (λ past. omega (arith, c.requires, past))
    (pair_at 1 c.args.place b b (refused (refusal_model c.in_default.field-0)) c.in_default.ensures.goes refl)

pub returns : goal.returns
returns c =
    let b = book_of c.args.book.now in
    let (p, at, plan, reply) = pair_at 1 c.args.place b b (wrote c.look.new.first.marks c.look.new.second.marks) c.in-Ok.ensures.goes refl in
    let atoms = standings c.args.atoms.now in
    on_ok_weaker c.add_reason.result (λ line. (p, at, line ∙ ap₂ (λ x y. c.args.out.now.items ++ reason_line atoms x y) (sym plan) (sym reply))) c.add_reason.ensures
