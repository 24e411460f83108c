use Rattle.std.proofs.Common.{◌≡◌, Ok, Some, None, Option, sym, refl, ap, ◌∙◌, subst}
use Rattle.std.specs.Borrow.{Bor}
use Rattle.std.specs.Option.{option_copied}
use Rattle.closure.specs.declared.row.Row as code
use Rattle.programs.specs.Programs.{rules_of}
use Rattle.finders.specs.declared.finder.Found.TheVariants.{Entry, End}
use Rattle.finders.specs.Asked.{from}
use Rattle.finders.specs.Meanings.{Listed}
use Rattle.finders.proofs.Answered.{Tells, tells}
use Rattle.book.specs.Models.{on_from}
use Rattle.book.proofs.following.following.Goals as goal

-- an entry that is lent is the entry
from_lent : (o : Option (Bor (code.Row 96))) → from o ≡ on_from (option_copied o)
from_lent None = refl
from_lent (Some x) = refl

pub unreachable-requires : goal.unreachable-requires
unreachable-requires g c =
    let m = g.F.Finder.meaning c.args.finder.now in
    let rules = rules_of c.args.job.program.now in
    let given = c.args.job.given.now.marks in
    let at : from c.as_ref.result ≡ on_from c.args.earlier = from_lent c.as_ref.result ∙ ap on_from c.as_ref.ensures.value in
    tells m rules given (from c.as_ref.result) _ _ _ c.in_default.ensures c.requires.0 (subst (Listed (m.order rules given)) (sym at) c.requires.1)

pub returns-in-Entry : goal.returns-in-Entry
returns-in-Entry g c =
    let m = g.F.Finder.meaning c.args.finder.now in
    let rules = rules_of c.args.job.program.now in
    let given = c.args.job.given.now.marks in
    let at : from c.as_ref.result ≡ on_from c.args.earlier = from_lent c.as_ref.result ∙ ap on_from c.as_ref.ensures.value in
    subst (λ a. Tells m rules given a (Ok Entry) c.next.new.row.marks) at
    (subst (λ f. Tells m rules given (from c.as_ref.result) (Ok f) c.next.new.row.marks) c.in-Entry.is (tells m rules given (from c.as_ref.result) _ _ _ c.in-Ok.ensures))

pub returns-in-End : goal.returns-in-End
returns-in-End g c =
    let m = g.F.Finder.meaning c.args.finder.now in
    let rules = rules_of c.args.job.program.now in
    let given = c.args.job.given.now.marks in
    let at : from c.as_ref.result ≡ on_from c.args.earlier = from_lent c.as_ref.result ∙ ap on_from c.as_ref.ensures.value in
    subst (λ a. Tells m rules given a (Ok End) c.next.new.row.marks) at
    (subst (λ f. Tells m rules given (from c.as_ref.result) (Ok f) c.next.new.row.marks) c.in-End.is (tells m rules given (from c.as_ref.result) _ _ _ c.in-Ok.ensures))
