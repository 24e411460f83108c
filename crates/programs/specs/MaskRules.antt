-- The rule that masks tell, and when it fires.
use Rattle.std.specs.Prelude.{ℕ}
use Rattle.game.specs.Sets.{Row, In, Within}
use Rattle.closure.specs.Bits.{bit_row}
use Rattle.programs.specs.Model.{head_model}
use Rattle.programs.specs.declared.mask_rule.MaskRule.{MaskRule}
use Rattle.programs.specs.Listed.{RowRule}

abbrev pub mask_rule : MaskRule → RowRule
mask_rule m = record { head = head_model m.head; plain = bit_row m.plain.bits; negated = bit_row m.negated.bits }

-- none of the negated atoms is in x, and all the plain ones are in s
abbrev pub FiresIn : Row → Row → RowRule → Type 0
FiresIn x s r = ((a : ℕ) → In a r.negated → In a x → ⊥) × Within r.plain s
