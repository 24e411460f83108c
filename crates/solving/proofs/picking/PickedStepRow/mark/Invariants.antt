use Rattle.std.proofs.Common.{◌≡◌, ℕ, ◌<◌, false, ◌||◌, get_or, drop}
use Rattle.programs.specs.Model.{models}
use Rattle.solving.specs.Tests.{headed_by}
use Rattle.solving.proofs.picking.PickedStepRow.mark.Given as goal

-- the marks so far and the heads that are left give the same as at the start
abbrev pub invariant-loop-rule : goal.invariant-loop-rule
invariant-loop-rule g l =
    (a : ℕ) → a < g.row.N →
    (get_or l.out.marks a false || headed_by (g.P.Picks.chosen l.self.picker l.from.marks) (models (drop l.rule-index l.rule-items)) a)
    ≡ (get_or l.initial.out.marks a false || headed_by (g.P.Picks.chosen l.self.picker l.from.marks) (models l.rule-items) a)
