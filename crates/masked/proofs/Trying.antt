-- A set of heads is tried, as a mask.
use Rattle.std.proofs.Common.{◌≡◌, ℕ, false, true, List, get_or, ap, ◌∙◌}
use Rattle.game.specs.Rules.{Rule, is_head}
use Rattle.game.proofs.Rows.{row}
use Rattle.closure.specs.Bits.{bit_row, length-bit_row}
use Rattle.closure.proofs.Marks.{get_or-row}
use Rattle.programs.specs.Limits.{fits}
use Rattle.solving.proofs.Testing.{Trial, tried}

pub mask_trial : (rules : List Rule) (given set heads : ℕ) → fits 96 rules ≡ true → bit_row heads ≡ row 96 (is_head rules) → Trial 96 rules (bit_row given) (bit_row set) (bit_row heads)
mask_trial rules given set heads kept same =
    tried rules kept (length-bit_row given) (length-bit_row set) (length-bit_row heads) (λ a less. ap (λ s. get_or s a false) same ∙ get_or-row 96 (is_head rules) a less)
