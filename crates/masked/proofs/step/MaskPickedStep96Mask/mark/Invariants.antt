use Rattle.std.proofs.Common.{◌≡◌, ℕ, ◌<◌, false, ◌||◌, get_or, drop}
use Rattle.closure.specs.Bits.{bit_row}
use Rattle.programs.specs.Model.{models}
use Rattle.solving.specs.Tests.{headed_by}
use Rattle.masked.proofs.step.MaskPickedStep96Mask.mark.Given as goal

-- the marks so far and the heads that are left give the same as at the start
abbrev pub invariant-loop-rule : goal.invariant-loop-rule
invariant-loop-rule g l =
    let rs = l.self.program.now.rules.items in
    let p = g.P.MaskPicks.chosen l.self.picker (bit_row l.from.bits) in
    (a : ℕ) → a < 96 → (get_or (bit_row l.out.bits) a false || headed_by p (models (drop l.rule-index rs)) a) ≡ (get_or (bit_row l.initial.out.bits) a false || headed_by p (models rs) a)
