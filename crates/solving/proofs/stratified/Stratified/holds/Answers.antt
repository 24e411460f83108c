use Rattle.std.proofs.Common.{ap, ◌∙◌}
use Rattle.programs.specs.Programs.{rules_of}
use Rattle.solving.specs.Tests.{violated}
use Rattle.solving.proofs.Judgement.{judged}
use Rattle.solving.proofs.stratified.Stratified.holds.Goals as goal

pub returns : goal.returns
returns g c =
    let self = c.args.self.now in
    judged g.row.N (rules_of self.program) self.levels.of c.args.given.now.marks c.settle-set.result.marks self.program.kept self.fit self.low self.levels.wide c.args.given.now.wide c.settle-set.ensures c.violates.result
    (c.violates.ensures ∙ ap (λ rs. violated rs c.settle-set.result.marks) c.rules.ensures)
