use Rattle.std.proofs.Common.{vec_items, refl, subst, arith}
use mathlib.Core.Logic.{∥∥₁_map}
use Rattle.game.specs.Game.{nothing}
use Rattle.runs.specs.Book.{Asked}
use Rattle.book.specs.Models.{texts_from, rows, pairs, row_shown, book_from}
use Rattle.book.specs.Opened.{open_book}
use Rattle.book.specs.Showing.{AsksTo}
use Rattle.book.proofs.Showings.{takes, asked_keeps}
use Rattle.book.proofs.open.Open.asked.Goals as goal

pub first_winning-shown-requires : goal.first_winning-shown-requires
first_winning-shown-requires g c = (takes (g.F.Finder.meaning c.args.finder.now) c.args.self.loaded c.requires, c.args.self.sheet_room)

pub invariant_of-result : goal.invariant_of-result
invariant_of-result g c =
    let f = g.F.Finder.meaning c.args.finder.now in
    let o = c.args.self in
    let t = texts_from o.loaded in
    let asked : AsksTo f t (open_book o) (book_from o.loaded o.struck c.first_winning-shown.new.sheet c.first_winning-shown.result) =
    record { asked = subst (λ rs. Asked t (rows rs) (λ m. f.order t.faults m) (f.order t.plans nothing) (pairs (vec_items o.sheet)) (row_shown c.first_winning-shown.result) (pairs (vec_items c.first_winning-shown.new.sheet))) c.as_slice.ensures.value c.first_winning-shown.ensures.0; texts = refl; struck = refl } in
    record { struck_room = o.struck_room; sheet_room = omega (arith, o.sheet_room, c.first_winning-shown.ensures.1); kept = ∥∥₁_map o.kept (asked_keeps f t (open_book o) _ refl c.requires asked) }

pub returns : goal.returns
returns g c =
    let f = g.F.Finder.meaning c.args.finder.now in
    let o = c.args.self in
    let t = texts_from o.loaded in
    record { asked = subst (λ rs. Asked t (rows rs) (λ m. f.order t.faults m) (f.order t.plans nothing) (pairs (vec_items o.sheet)) (row_shown c.first_winning-shown.result) (pairs (vec_items c.first_winning-shown.new.sheet))) c.as_slice.ensures.value c.first_winning-shown.ensures.0; texts = refl; struck = refl }
