use Rattle.std.proofs.Common.{subst}
use Rattle.game.specs.Derives.{SmallestClosed, derives_at}
use Rattle.closure.specs.Bits.{bit_row}
use Rattle.programs.specs.Programs.{rules_of}
use Rattle.solving.specs.Levels.{level_in}
use Rattle.solving.specs.declared.levels.Levels.{Levels}
use Rattle.solving.proofs.Marking.{picked_level, smallest_as}
use Rattle.masked.proofs.judging.settle_level.Goals as goal

pub returns : goal.returns
returns c =
    let set = bit_row c.args.set.bits in
    let l = c.args.level in
    let out = bit_row c.closure.result.bits in
    subst (λ (levels : Levels 96). SmallestClosed 96 (derives_at (rules_of c.args.stratified.now.program) (level_in levels.of) l set) set out) c.levels.ensures
    (subst (λ rules. SmallestClosed 96 (derives_at rules (level_in c.levels.result.now.of) l set) set out) c.program.ensures
    (smallest_as (picked_level (rules_of c.program.result.now) c.levels.result.now.of l set) c.closure.ensures.smallest))
