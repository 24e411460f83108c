use Rattle.std.proofs.Common.{ap, sym, subst, ◌∙◌}
use Rattle.std.proofs.lemmas.Bool.Decides.{not_from_Decides}
use Rattle.game.specs.Sets.{union}
use Rattle.game.specs.AnswerSets.{AnswerSet}
use Rattle.closure.specs.Bits.{bit_row}
use Rattle.programs.specs.Programs.{rules_of}
use Rattle.programs.specs.declared.masks.Masks.{Masks}
use Rattle.finders.specs.Meanings.{after}
use Rattle.finders.specs.Asked.{from}
use Rattle.finders.specs.Between.{Between, Follows}
use Rattle.finders.proofs.Takings.{taken_of}
use Rattle.finders.proofs.Following.{goes_from_start, goes_unlisted, goes_on, found_as_row}
use Rattle.finders.proofs.branching.Branched.next_branched.Goals as goal

pub returns-in_default : goal.returns-in_default
returns-in_default c =
    let job = c.args.self.now.job in
    let rules = rules_of job.program.now in
    let given = bit_row job.given.bits in
    let high = bit_row c.union.result.bits in
    goes_from_start 96 96 rules given (bit_row job.program.now.masks.heads.bits) (taken_of c.args.self.now)
    high (c.union.ensures ∙ ap (λ m. union given (bit_row m.bits)) (c.heads.ensures ∙ ap (λ (m : Masks). m.heads) c.masks.ensures)) (from c.args.earlier) (ap from c.in_default.is) c.as_row.result (found_as_row (Between rules given given high) c.search.result c.as_row.result c.as_row.ensures c.search.ensures)

pub returns-then-not-is_answer_set : goal.returns-then-not-is_answer_set
returns-then-not-is_answer_set c =
    let job = c.args.self.now.job in
    let rules = rules_of job.program.now in
    let given = bit_row job.given.bits in
    goes_unlisted 96 rules given (from c.args.earlier) c.in-Some.row.now.marks (ap from c.in-Some.is)
    (λ ans. not_from_Decides c.is_answer_set.result c.is_answer_set.ensures c.if-not-is_answer_set.true (subst (AnswerSet rules given) (sym c.of-entry.ensures) ans))

pub returns : goal.returns
returns c =
    let job = c.args.self.now.job in
    let rules = rules_of job.program.now in
    let given = bit_row job.given.bits in
    let entry = bit_row c.of-entry.result.bits in
    goes_on 96 rules given (from c.args.earlier) entry (ap from c.in-Some.is ∙ ap after (sym c.of-entry.ensures))
    (c.is_answer_set.ensures.0 c.if-not-is_answer_set.false) c.as_row-2.result (found_as_row (Follows rules given entry) c.after.result c.as_row-2.result c.as_row-2.ensures c.after.ensures)
