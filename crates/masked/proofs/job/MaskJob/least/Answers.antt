use Rattle.game.proofs.Deriving.{closed_smallest}
use Rattle.closure.specs.Bits.{bit_row}
use Rattle.programs.specs.Programs.{rules_of}
use Rattle.solving.proofs.Marking.{picked_derives, smallest_as}
use Rattle.solving.proofs.Testing.{program_heads}
use Rattle.masked.proofs.job.MaskJob.least.Goals as goal

pub returns : goal.returns
returns c =
    let job = c.args.self.now in
    let rules = rules_of job.program.now in
    let x = bit_row c.args.against.bits in
    closed_smallest 96 rules x (program_heads 96 rules job.program.now.kept) (bit_row job.given.bits) (bit_row c.closure.result.bits) (smallest_as (picked_derives rules x) c.closure.ensures.smallest)
