use Rattle.std.proofs.lemmas.Bool.Decides.{not_from_Decides}
use Rattle.game.specs.Sets.{Row}
use Rattle.game.specs.AnswerSets.{AnswerSet}
use Rattle.programs.specs.Programs.{rules_of}
use Rattle.finders.specs.Upward.{SetOf}
use Rattle.finders.proofs.Searching.{answer_set_of, upward_next, upward_end, rises}
use Rattle.finders.proofs.taken.Taken.first_from.Goals as goal

pub returns-in_err-set : goal.returns-in_err-set
returns-in_err-set g c =
    let rules = rules_of c.args.self.now.job.program.now in
    let given = c.args.self.now.job.given.now.marks in
    let sets : (z : Row) → AnswerSet rules given z → SetOf c.args.self.now.heads.now.marks z = answer_set_of g.row.N rules given c.args.self.now.heads.now.marks c.args.self.now.job.given.now.wide c.args.self.now.are in
    rw c.from_residual.ensures (upward_end c.loop-set.invariant sets (not_from_Decides c.is_answer_set.result c.is_answer_set.ensures c.loop-set-test.true) c.in_err-set.ensures)

pub loop-set-smaller : goal.loop-set-smaller
loop-set-smaller g c = rises g.row.N c.loop-set.set.marks c.in_ok-set.set.marks c.loop-set.set.wide c.in_ok-set.set.wide c.in_ok-set.ensures.above

pub loop-set-preserved : goal.loop-set-preserved
loop-set-preserved g c =
    let rules = rules_of c.args.self.now.job.program.now in
    let given = c.args.self.now.job.given.now.marks in
    let sets : (z : Row) → AnswerSet rules given z → SetOf c.args.self.now.heads.now.marks z = answer_set_of g.row.N rules given c.args.self.now.heads.now.marks c.args.self.now.job.given.now.wide c.args.self.now.are in
    upward_next c.loop-set.invariant sets (not_from_Decides c.is_answer_set.result c.is_answer_set.ensures c.loop-set-test.true) c.in_ok-set.set.marks c.in_ok-set.ensures
