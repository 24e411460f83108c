use Rattle.std.proofs.Common.{subst}
use Rattle.std.proofs.lemmas.Result.{err_from_is_err_and}
use Rattle.programs.specs.Programs.{rules_of}
use Rattle.finders.specs.Asked.{from}
use Rattle.finders.specs.Going.{GoesOn, NotListed}
use Rattle.finders.specs.Orders.{branching_order}
use Rattle.finders.specs.Supplied.{branching}
use Rattle.finders.proofs.Answering.{refused_answers, unlisted_answers, found_answers}
use Rattle.finders.proofs.branching.BranchingFinder96.next.Goals as goal

pub returns-in_err-heads_taken : goal.returns-in_err-heads_taken
returns-in_err-heads_taken c =
    let p = err_from_is_err_and c.from_residual.result c.from_residual.ensures.1 in
    rw (p.1, p.2)
    (refused_answers (branching 96) (rules_of c.args.program.now) c.args.given.now.marks (from c.args.earlier) c.args.row.now.marks c.in_err-heads_taken.field-0.0 c.in_err-heads_taken.ensures)

pub returns-in_err-found : goal.returns-in_err-found
returns-in_err-found c =
    let p = err_from_is_err_and c.from_residual-in_err-found.result c.from_residual-in_err-found.ensures.1 in
    rw (p.1, p.2)
    (unlisted_answers (branching 96) (rules_of c.args.program.now) c.args.given.now.marks (from c.args.earlier) c.args.row.now.marks c.in_ok-heads_taken.ensures.taken c.in_err-found.field-0.0
    (subst (λ g. NotListed (branching_order (rules_of c.args.program.now) g) (from c.args.earlier) c.in_err-found.field-0.0) c.of.ensures c.in_err-found.ensures))

pub returns : goal.returns
returns c =
    found_answers (branching 96) (rules_of c.args.program.now) c.args.given.now.marks (from c.args.earlier) c.args.row.now.marks c.in_ok-heads_taken.ensures.taken
    c.in_ok-found.found (subst (λ g. GoesOn (branching_order (rules_of c.args.program.now) g) (from c.args.earlier) c.in_ok-found.found) c.of.ensures c.in_ok-found.ensures) c.written.result c.written.new.row.marks c.written.ensures
