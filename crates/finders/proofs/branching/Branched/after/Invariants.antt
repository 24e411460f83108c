use Rattle.std.proofs.Common.{◌≤◌}
use Rattle.closure.specs.Bits.{bit_row}
use Rattle.programs.specs.Programs.{rules_of}
use Rattle.finders.proofs.Turning.{NoneFrom}
use Rattle.finders.proofs.branching.Branched.after.Given as goal

abbrev pub invariant-loop-atom : goal.invariant-loop-atom
invariant-loop-atom l = (l.atom ≤ 96) × NoneFrom (rules_of l.self.job.program.now) (bit_row l.self.job.given.bits) (bit_row l.entry.bits) l.atom

abbrev pub decreases-loop-atom : goal.decreases-loop-atom
decreases-loop-atom l = l.atom
