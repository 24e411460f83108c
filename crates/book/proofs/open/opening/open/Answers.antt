use Rattle.std.proofs.Common.{sym, subst, arith}
use Rattle.game.specs.Sides.{Side}
use Rattle.reading.specs.Loads.{Three}
use Rattle.loading.specs.Sided.{side_of}
use Rattle.loading.specs.Read.{three_of}
use Rattle.runs.proofs.Readable.{loads_readable}
use Rattle.runs.specs.Runs.{Keeps}
use Rattle.book.proofs.Loadings.{loads_stratified, opened_keeps, opened_book}
use Rattle.book.proofs.open.opening.open.Goals as goal

pub loaded-requires : goal.loaded-requires
loaded-requires c =
    let x : Side × Three = (side_of c.in_ok-game.game.side, three_of c.in_ok-game.game.texts) in
    let l = c.in_ok-game.ensures.gives in
    (loads_readable c.args.side c.args.sources.plan.now c.args.sources.faults.now c.args.sources.site.now x l, loads_stratified c.args.side c.args.sources.plan.now c.args.sources.faults.now c.args.sources.site.now x l)

pub invariant_of-result : goal.invariant_of-result
invariant_of-result c =
    let x : Side × Three = (side_of c.in_ok-game.game.side, three_of c.in_ok-game.game.texts) in
    let l = c.in_ok-game.ensures.gives in
    let is = opened_book c.loaded.result c.in_ok-struck.struck c.in_ok-sheet.sheet x c.loaded.ensures c.in_ok-struck.ensures.items c.in_ok-sheet.ensures.items in
    record { struck_room = omega (arith, c.in_ok-struck.ensures.capacity); sheet_room = omega (arith, c.in_ok-sheet.ensures.capacity); kept = ∣ subst Keeps (sym is) (opened_keeps c.args.side c.args.sources.plan.now c.args.sources.faults.now c.args.sources.site.now x l) ∣₁ }
