use Rattle.std.proofs.Common.{sym, subst, arith}
use mathlib.Core.Logic.{∥∥₁_map}
use Rattle.runs.specs.Runs.{Keeps}
use Rattle.book.proofs.Calls.{struck_book, strike_keeps}
use Rattle.book.proofs.open.Open.with_struck.Goals as goal

pub invariant_of-result : goal.invariant_of-result
invariant_of-result c =
    let o = c.args.self in
    let r = c.args.row in
    record { struck_room = omega (arith, o.struck_room, c.push_reserved.ensures.capacity); sheet_room = o.sheet_room; kept = ∥∥₁_map o.kept (λ keeps. subst Keeps (sym (struck_book o.loaded o.struck c.push_reserved.new.self o.sheet o.shown r c.push_reserved.ensures.items)) (strike_keeps o.loaded o.struck o.sheet o.shown r c.requires.0 c.requires.1 keeps)) }
