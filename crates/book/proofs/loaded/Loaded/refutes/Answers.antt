use Rattle.std.proofs.Common.{◌≡◌, ap, sym, ◌∙◌, subst, Decides}
use Rattle.std.proofs.lemmas.Bool.Decides.{Decides-not}
use Rattle.game.specs.Sets.{Row, union}
use Rattle.game.specs.Game.{Texts, Holds, Refutes}
use Rattle.game.specs.Sides.{Side, some_plan, every_plan}
use Rattle.closure.specs.Bits.{bit_row}
use Rattle.loading.specs.Sided.{side_of}
use Rattle.solving.specs.Judged.{Judged}
use Rattle.book.specs.Models.{texts_from}
use Rattle.book.proofs.Judged.{holds_decides}
use Rattle.book.proofs.loaded.Loaded.refutes.Goals as goal

pub returns-in-SomePlan : goal.returns-in-SomePlan
returns-in-SomePlan c =
    let t = texts_from c.args.self.now in
    let plan = bit_row c.args.plan.bits in
    let reply = bit_row c.args.reply.bits in
    rw c.in-SomePlan.is (Decides-not c.holds-holds.result (holds_decides t plan reply c.holds-holds.result (subst (λ g. Judged t.site g c.holds-holds.result) c.union.ensures c.holds-holds.ensures)))

pub returns-in-EveryPlan : goal.returns-in-EveryPlan
returns-in-EveryPlan c =
    let t = texts_from c.args.self.now in
    let plan = bit_row c.args.plan.bits in
    let reply = bit_row c.args.reply.bits in
    rw c.in-EveryPlan.is (holds_decides t plan reply c.holds-holds.result (subst (λ g. Judged t.site g c.holds-holds.result) c.union.ensures c.holds-holds.ensures))
