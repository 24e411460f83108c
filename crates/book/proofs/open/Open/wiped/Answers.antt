use Rattle.std.proofs.Common.{sym, subst, arith}
use mathlib.Core.Logic.{∥∥₁_map}
use Rattle.runs.specs.Runs.{Keeps}
use Rattle.book.proofs.Calls.{wiped_book, wipe_keeps}
use Rattle.book.proofs.open.Open.wiped.Goals as goal

pub invariant_of-result : goal.invariant_of-result
invariant_of-result c =
    let o = c.args.self in
    record { struck_room = omega (arith, o.struck_room, c.clear.ensures.capacity); sheet_room = omega (arith, o.sheet_room, c.clear-2.ensures.capacity); kept = ∥∥₁_map o.kept (λ keeps. subst Keeps (sym (wiped_book o.loaded c.clear.new.self c.clear-2.new.self c.clear.ensures.items c.clear-2.ensures.items)) (wipe_keeps o.loaded o.struck o.sheet o.shown keeps)) }
