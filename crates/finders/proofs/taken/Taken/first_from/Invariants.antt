use Rattle.std.proofs.Common.{◌-◌, ◌^◌}
use Rattle.programs.specs.Programs.{rules_of}
use Rattle.finders.proofs.Binary.{value}
use Rattle.finders.proofs.Searching.{Upward}
use Rattle.finders.proofs.taken.Taken.first_from.Given as goal

abbrev pub invariant-loop-set : goal.invariant-loop-set
invariant-loop-set g l = Upward (rules_of l.self.job.program.now) l.self.job.given.now.marks l.self.heads.now.marks l.initial.set.marks l.set.marks

abbrev pub decreases-loop-set : goal.decreases-loop-set
decreases-loop-set g l = 2 ^ g.row.N - value l.set.marks
