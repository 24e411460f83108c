use Rattle.std.proofs.Common.{◌-◌}
use Rattle.closure.specs.Rows.{marked}
use Rattle.closure.specs.Steps.{Rounds}
use Rattle.closure.proofs.closing.closure.Given as goal

abbrev pub invariant-loop-next : goal.invariant-loop-next
invariant-loop-next g l = let marks = g.T.AtomSet.marks in Rounds g.row.N (g.S.Step.follows l.step) (marks l.start) (marks l.set)

abbrev pub decreases-loop-next : goal.decreases-loop-next
decreases-loop-next g l = g.row.N - marked (g.T.AtomSet.marks l.set)
