use Rattle.std.proofs.Common.{◌≡◌, ℕ, ◌<◌, false, ◌||◌, get_or, drop}
use Rattle.game.specs.Rules.{is_head}
use Rattle.closure.specs.Bits.{bit_row}
use Rattle.programs.specs.Model.{models}
use Rattle.programs.proofs.masks.methods.heads_of.Given as goal

-- the marks so far and the heads that are left are all heads
abbrev pub invariant-loop-rule : goal.invariant-loop-rule
invariant-loop-rule l = (a : ℕ) → a < 96 → (get_or (bit_row l.set.bits) a false || is_head (models (drop l.rule-index l.rules)) a) ≡ is_head (models l.rules) a
