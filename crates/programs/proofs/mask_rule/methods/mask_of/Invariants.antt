use Rattle.std.proofs.Common.{◌≡◌, ℕ, ◌<◌, false, ◌||◌, get_or, drop}
use Rattle.game.specs.Rules.{among}
use Rattle.closure.specs.Bits.{bit_row}
use Rattle.programs.proofs.mask_rule.methods.mask_of.Given as goal

-- what is in the set and what is left of the list give the whole list
abbrev pub invariant-loop-atom : goal.invariant-loop-atom
invariant-loop-atom l = (k : ℕ) → k < 96 → (get_or (bit_row l.set.bits) k false || among k (drop l.atom-index l.atoms)) ≡ among k l.atoms
