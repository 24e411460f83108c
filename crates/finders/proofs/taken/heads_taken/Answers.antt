use Rattle.std.proofs.Common.{not, sym, ap, ◌∙◌, arith}
use Rattle.std.proofs.lemmas.Bool.Decides.{not_from_Decides}
use Rattle.closure.proofs.Marks.{told_other}
use Rattle.programs.specs.Programs.{rules_of}
use Rattle.finders.proofs.Jobs.{Seen, many_heads_from, given_head_from, taken_from}
use Rattle.finders.proofs.taken.heads_taken.Goals as goal

pub returns-then-count-most : goal.returns-then-count-most
returns-then-count-most g c =
    let seen : Seen g.row.N (rules_of c.args.job.program.now) c.args.job.given.now.marks c.heads-heads.result.marks =
    record { kept = c.args.job.program.now.kept; given_wide = c.args.job.given.now.wide; wide = c.heads-heads.result.wide; each = c.heads-heads.ensures } in
    many_heads_from seen c.args.most (omega (arith, c.if-count-most.true, c.count.ensures))

pub returns-then-ne : goal.returns-then-ne
returns-then-ne g c =
    let seen : Seen g.row.N (rules_of c.args.job.program.now) c.args.job.given.now.marks c.heads-heads.result.marks =
    record { kept = c.args.job.program.now.kept; given_wide = c.args.job.given.now.wide; wide = c.heads-heads.result.wide; each = c.heads-heads.ensures } in
    given_head_from seen c.args.most (omega (arith, c.if-count-most.false, c.count.ensures)) (λ e. not_from_Decides _ (told_other _ _ _ c.ne.ensures) (ap not c.if-ne.true) (c.minus.ensures ∙ e))

pub returns : goal.returns
returns g c =
    let seen : Seen g.row.N (rules_of c.args.job.program.now) c.args.job.given.now.marks c.heads-heads.result.marks =
    record { kept = c.args.job.program.now.kept; given_wide = c.args.job.given.now.wide; wide = c.heads-heads.result.wide; each = c.heads-heads.ensures } in
    taken_from seen c.args.most (omega (arith, c.if-count-most.false, c.count.ensures)) (sym c.minus.ensures ∙ (told_other _ _ _ c.ne.ensures).0 (ap not c.if-ne.false))
