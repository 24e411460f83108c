use Rattle.std.proofs.Common.{◌≡◌, ◌+◌, ◌≤◌, drop}
use Rattle.closure.specs.Rows.{marked}
use Rattle.closure.proofs.row.Row.count.Given as goal

abbrev pub invariant-loop-mark : goal.invariant-loop-mark
invariant-loop-mark g l = (l.n ≤ l.mark-index) × (l.n + marked (drop l.mark-index l.mark-items) ≡ marked l.self.marks)
