use Rattle.std.proofs.Common.{sym, subst}
use Rattle.game.specs.Sets.{In}
use Rattle.closure.proofs.Marks.{in_minus}
use Rattle.programs.specs.Programs.{rules_of}
use Rattle.solving.specs.Judged.{OneAnswer}
use Rattle.solving.proofs.Judgement.{one_answer}
use Rattle.solving.proofs.stratified.Stratified.answer.Goals as goal

pub returns : goal.returns
returns g c =
    let self = c.args.self.now in
    let given = c.args.given.now.marks in
    let set = c.settle.result.marks in
    record {
      one =
          subst (OneAnswer (rules_of self.program) given) (sym c.minus.ensures)
          (one_answer g.row.N (rules_of self.program) self.levels.of given set self.program.kept self.fit self.low self.levels.wide c.args.given.now.wide c.settle.ensures);
      new = λ a inside. (in_minus set given a (subst (In a) c.minus.ensures inside)).1;
    }
