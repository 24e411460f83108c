use Rattle.game.proofs.Deriving.{closed_smallest}
use Rattle.programs.specs.Programs.{rules_of}
use Rattle.solving.proofs.Marking.{picked_derives, smallest_as}
use Rattle.solving.proofs.Testing.{program_heads}
use Rattle.solving.proofs.job.Job.least.Goals as goal

pub returns : goal.returns
returns g c =
    let rules = rules_of c.args.self.now.program.now in
    let x = c.args.against.now.marks in
    closed_smallest g.row.N rules x (program_heads g.row.N rules c.args.self.now.program.now.kept) c.args.self.now.given.now.marks c.closure.result.marks (smallest_as (picked_derives rules x) c.closure.ensures.smallest)
