use Rattle.std.proofs.Common.{Decides, subst}
use Rattle.std.proofs.lemmas.Bool.Decides.{same_from_decides}
use Rattle.closure.specs.Bits.{bit_row, length-bit_row}
use Rattle.programs.specs.Programs.{rules_of}
use Rattle.solving.specs.Bounds.{Broken}
use Rattle.solving.specs.Tests.{violated}
use Rattle.solving.proofs.Judgement.{judged}
use Rattle.solving.proofs.Testing.{violated_decides}
use Rattle.masked.proofs.judging.holds.Goals as goal

pub returns : goal.returns
returns c =
    let st = c.args.stratified.now in
    let rules = rules_of st.program in
    let given = c.args.given.bits in
    let s = bit_row c.settle-set.result.bits in
    judged 96 rules st.levels.of (bit_row given) s st.program.kept st.fit st.low st.levels.wide (length-bit_row given) c.settle-set.ensures c.breaks.result
    (same_from_decides c.breaks.result (violated rules s) (subst (λ rs. Decides c.breaks.result (Broken rs s s)) c.program.ensures c.breaks.ensures) (violated_decides rules s s))
