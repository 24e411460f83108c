use Rattle.std.proofs.Common.{◌≡◌, drop}
use Rattle.closure.specs.Bits.{bit_row}
use Rattle.programs.specs.Model.{models}
use Rattle.solving.specs.Tests.{violated_on}
use Rattle.masked.proofs.job.MaskJob.breaks.Given as goal

-- what is left of the rules gives the same as the whole
abbrev pub invariant-loop-rule : goal.invariant-loop-rule
invariant-loop-rule l =
    let rs = l.self.program.now.rules.items in
    violated_on (models (drop l.rule-index rs)) (bit_row l.against.bits) (bit_row l.from.bits) ≡ violated_on (models rs) (bit_row l.against.bits) (bit_row l.from.bits)
