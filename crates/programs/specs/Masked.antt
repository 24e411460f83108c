-- What the masks of a program's rules tell.
use Rattle.std.specs.Prelude.{◌≡◌, ℕ, List, map, take}
use Rattle.game.specs.Rules.{Rule, is_head}
use Rattle.game.proofs.Rows.{row}
use Rattle.closure.specs.Bits.{bit_row}
use Rattle.closure.specs.declared.mask.Mask.{Mask}
use Rattle.programs.specs.declared.mask_rule.MaskRule.{MaskRule}
use Rattle.programs.specs.Listed.{in_rows}
use Rattle.programs.specs.MaskRules.{mask_rule}

-- the first `count` masks are the rules in their order, and `heads` is the set of their heads
abbrev pub AsMasks : List Rule → List MaskRule → ℕ → Mask → Type 0
AsMasks rules masks count heads = (map mask_rule (take count masks) ≡ map in_rows rules) × (bit_row heads.bits ≡ row 96 (is_head rules))
