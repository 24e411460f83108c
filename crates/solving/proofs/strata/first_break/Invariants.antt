use Rattle.std.proofs.Common.{ℕ, ◌<◌, get_or}
use Rattle.programs.specs.declared.rule.Rule.{Rule}
use Rattle.programs.specs.Model.{model}
use Rattle.programs.specs.Programs.{rules_of}
use Rattle.game.specs.Strata.{Breaks}
use Rattle.solving.proofs.strata.first_break.Given as goal

-- no rule so far breaks the strata
abbrev pub invariant-loop-i : goal.invariant-loop-i
invariant-loop-i g l = (j : ℕ) (d : Rule) → j < l.i → Breaks (rules_of l.program) (model (get_or l.rule-items j d)) → ⊥
