use Rattle.std.proofs.Common.{◌≡◌, ℕ, ◌<◌, ◌⊎◌, true, drop}
use Rattle.game.specs.Rules.{is_head}
use Rattle.game.specs.Sets.{In}
use Rattle.programs.specs.Model.{models}
use Rattle.solving.specs.Levels.{level_in}
use Rattle.solving.proofs.levels.Levels.used.Given as goal

-- each head is one of a rule that is left, or its level is marked
abbrev pub invariant-loop-rule : goal.invariant-loop-rule
invariant-loop-rule g l =
    (a : ℕ) → is_head (models l.rule-items) a ≡ true → level_in l.self.of a < g.row.N → (is_head (models (drop l.rule-index l.rule-items)) a ≡ true) ⊎ In (level_in l.self.of a) l.used.marks
