use Rattle.std.proofs.Common.{ap, rules}
use Rattle.std.proofs.lemmas.Bool.Decides.{not_from_Decides}
use Rattle.programs.specs.Programs.{rules_of}
use Rattle.finders.specs.Asked.{from}
use Rattle.finders.specs.Upward.{SetOf}
use Rattle.finders.proofs.Searching.{answer_set_of}
use Rattle.finders.proofs.Finding.{goes_from_start, goes_unlisted, goes_on, goes_to_end}
use Rattle.finders.proofs.taken.Taken.next_counted.Goals as goal

pub returns-in_default : goal.returns-in_default
returns-in_default g c =
    goes_from_start g.row.N (rules_of c.args.self.now.job.program.now) c.args.self.now.job.given.now.marks c.args.self.now.heads.now.marks c.args.self.now.job.given.now.wide c.args.self.now.are
    c.clear.result.marks c.clear.ensures (from c.args.earlier) (ap from c.in_default.is) c.first_from.result c.first_from.ensures

pub returns-then-not-is_answer_set : goal.returns-then-not-is_answer_set
returns-then-not-is_answer_set g c =
    goes_unlisted g.row.N (rules_of c.args.self.now.job.program.now) c.args.self.now.job.given.now.marks c.args.self.now.heads.now.marks c.args.self.now.job.given.now.wide c.args.self.now.are
    (from c.args.earlier) c.in-Some.entry.now.marks (ap from c.in-Some.is)
    (not_from_Decides c.is_answer_set.result c.is_answer_set.ensures c.if-not-is_answer_set.true)

pub raised-requires : goal.raised-requires
raised-requires g c =
    let of : SetOf c.args.self.now.heads.now.marks c.in-Some.entry.now.marks =
    answer_set_of g.row.N (rules_of c.args.self.now.job.program.now) c.args.self.now.job.given.now.marks c.args.self.now.heads.now.marks c.args.self.now.job.given.now.wide c.args.self.now.are c.in-Some.entry.now.marks (c.is_answer_set.ensures.0 c.if-not-is_answer_set.false) in
    search rules

pub returns-in-Some-raised : goal.returns-in-Some-raised
returns-in-Some-raised g c =
    goes_on g.row.N (rules_of c.args.self.now.job.program.now) c.args.self.now.job.given.now.marks c.args.self.now.heads.now.marks c.args.self.now.job.given.now.wide c.args.self.now.are
    (from c.args.earlier) c.in-Some.entry.now.marks (ap from c.in-Some.is) (c.is_answer_set.ensures.0 c.if-not-is_answer_set.false)
    c.in-Some-raised.start.marks c.in-Some-raised.ensures c.first_from-in-Some-raised.result c.first_from-in-Some-raised.ensures

pub returns-in-None : goal.returns-in-None
returns-in-None g c =
    goes_to_end g.row.N (rules_of c.args.self.now.job.program.now) c.args.self.now.job.given.now.marks c.args.self.now.heads.now.marks c.args.self.now.job.given.now.wide c.args.self.now.are
    (from c.args.earlier) c.in-Some.entry.now.marks (ap from c.in-Some.is) (c.is_answer_set.ensures.0 c.if-not-is_answer_set.false) c.in-None.ensures
