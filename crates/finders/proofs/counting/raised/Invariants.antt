use Rattle.finders.proofs.Raising.{Cleared}
use Rattle.finders.proofs.counting.raised.Given as goal

abbrev pub invariant-loop-place : goal.invariant-loop-place
invariant-loop-place g l = Cleared l.heads.marks l.set.marks l.row.marks l.place
