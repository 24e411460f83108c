use Rattle.std.proofs.Common.{not, sym, ap, ◌∙◌}
use Rattle.std.proofs.lemmas.Bool.Decides.{Decides-not, Decides-like}
use Rattle.closure.proofs.Marks.{told_other}
use Rattle.programs.specs.Programs.{rules_of}
use Rattle.solving.proofs.Testing.{tried, refused, only_heads, is_smallest, accepted, unbroken}
use Rattle.solving.proofs.job.Job.is_answer_set.Goals as goal

pub returns-then-ne : goal.returns-then-ne
returns-then-ne g c =
    let job = c.args.self.now in
    let trial = tried (rules_of job.program.now) job.program.now.kept job.given.now.wide c.args.row.now.wide c.heads-heads.result.wide c.heads-heads.ensures in
    refused _ (told_other _ _ _ c.ne.ensures) (ap not c.if-ne.true) (λ ans. c.union.ensures ∙ only_heads trial ans)

pub returns-then-ne-2 : goal.returns-then-ne-2
returns-then-ne-2 g c =
    let job = c.args.self.now in
    let trial = tried (rules_of job.program.now) job.program.now.kept job.given.now.wide c.args.row.now.wide c.heads-heads.result.wide c.heads-heads.ensures in
    refused _ (told_other _ _ _ c.ne-2.ensures) (ap not c.if-ne-2.true) (is_smallest trial c.union-all.result.marks c.least.result.marks c.union-all.ensures c.least.result.wide c.least.ensures)

pub returns : goal.returns
returns g c =
    let x = c.union-all.result.marks in
    let job = c.args.self.now in
    let trial = tried (rules_of job.program.now) job.program.now.kept job.given.now.wide c.args.row.now.wide c.heads-heads.result.wide c.heads-heads.ensures in
    Decides-like _
    (λ whole. accepted trial x c.least.result.marks c.union-all.ensures c.least.result.wide c.least.ensures (sym c.union.ensures ∙ (told_other _ _ _ c.ne.ensures).0 (ap not c.if-ne.false)) ((told_other _ _ _ c.ne-2.ensures).0 (ap not c.if-ne-2.false)) whole)
    (λ ans. unbroken trial x c.least.result.marks c.union-all.ensures c.least.result.wide c.least.ensures ans)
    (Decides-not c.breaks_constraint.result c.breaks_constraint.ensures)
