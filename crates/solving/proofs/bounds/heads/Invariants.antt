use Rattle.std.proofs.Common.{◌≡◌, ℕ, ◌<◌, true, false, ◌||◌, get_or, drop}
use Rattle.programs.specs.Model.{models}
use Rattle.solving.specs.Tests.{headed_by}
use Rattle.solving.proofs.bounds.heads.Given as goal

-- the marks so far and the heads that are left are all heads
abbrev pub invariant-loop-rule : goal.invariant-loop-rule
invariant-loop-rule g l =
    (a : ℕ) → a < g.row.N →
    (get_or l.row.marks a false || headed_by (λ _. true) (models (drop l.rule-index l.rule-items)) a) ≡ headed_by (λ _. true) (models l.rule-items) a
