use Rattle.programs.specs.Programs.{rules_of}
use Rattle.solving.proofs.Marking.{picked_level, smallest_as}
use Rattle.solving.proofs.stratified.Stratified.settle_level.Goals as goal

pub returns : goal.returns
returns g c = smallest_as (picked_level (rules_of c.args.self.now.program) c.args.self.now.levels.of c.args.level c.args.set.now.marks) c.closure.ensures.smallest
