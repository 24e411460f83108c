-- A job that the branching finder has taken: any that has no given head.
use Rattle.closure.specs.Bits.{bit_row, length-bit_row}
use Rattle.programs.specs.Programs.{rules_of}
use Rattle.finders.specs.declared.branching.Branched.{Branched}
use Rattle.finders.specs.Jobs.{HeadsTaken}
use Rattle.finders.proofs.Jobs.{all_taken}

pub taken_of : (b : Branched) → HeadsTaken 96 96 (rules_of b.job.program.now) (bit_row b.job.given.bits) (bit_row b.job.program.now.masks.heads.bits)
taken_of b = all_taken 96 (rules_of b.job.program.now) (bit_row b.job.given.bits) (bit_row b.job.program.now.masks.heads.bits) b.job.program.now.kept (length-bit_row b.job.given.bits) b.job.program.now.same.1 b.apart
