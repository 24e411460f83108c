use Rattle.std.proofs.Common.{◌<◌, length, vec_items, subst}
use Rattle.reading.specs.Tables.{standings}
use Rattle.book.specs.Books.{book_of}
use Rattle.desk_book.proofs.Reasoning.{reasons_on}
use Rattle.desk_book.proofs.reasons.add_sheet.Goals as goal

pub loop-place-preserved : goal.loop-place-preserved
loop-place-preserved c =
    let n = c.loop-place.place in
    let less = subst (λ k. n < k) c.pairs-pairs.ensures c.loop-place-test.true in
    reasons_on (standings c.args.atoms.now) (book_of c.args.book.now).sheet n (vec_items c.args.out.now) (vec_items c.loop-place.out) (vec_items c.add_reason_at.new.out) less c.loop-place.invariant c.in_ok-add_reason_at.ensures
