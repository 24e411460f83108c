use Rattle.std.proofs.Common.{sym, subst, ap, ◌∙◌}
use Rattle.std.proofs.lemmas.Bool.Decides.{Decides-not, Decides-like}
use Rattle.game.specs.Sets.{Within}
use Rattle.closure.specs.Bits.{bit_row, length-bit_row}
use Rattle.closure.proofs.Marks.{union_left, within_union}
use Rattle.programs.specs.Programs.{rules_of}
use Rattle.programs.specs.declared.masks.Masks.{Masks}
use Rattle.solving.proofs.Testing.{refused, only_heads, is_smallest, accepted, unbroken}
use Rattle.masked.proofs.Trying.{mask_trial}
use Rattle.masked.proofs.job.MaskJob.is_answer_set.Goals as goal

pub returns-then-not-is_within : goal.returns-then-not-is_within
returns-then-not-is_within c =
    let job = c.args.self.now in
    let set = bit_row c.args.set.bits in
    let heads = c.heads.result.bits in
    let trial = mask_trial (rules_of job.program.now) job.given.bits c.args.set.bits heads job.program.now.kept (ap (λ m. bit_row m.bits) (c.heads.ensures ∙ ap (λ (m : Masks). m.heads) c.masks.ensures) ∙ job.program.now.same.1) in
    refused c.is_within.result c.is_within.ensures c.if-not-is_within.true (λ ans. subst (Within set) (only_heads trial ans) (union_left set (bit_row heads)))

pub returns-then-not-same : goal.returns-then-not-same
returns-then-not-same c =
    let job = c.args.self.now in
    let heads = c.heads.result.bits in
    let trial = mask_trial (rules_of job.program.now) job.given.bits c.args.set.bits heads job.program.now.kept (ap (λ m. bit_row m.bits) (c.heads.ensures ∙ ap (λ (m : Masks). m.heads) c.masks.ensures) ∙ job.program.now.same.1) in
    let least = c.least.result.bits in
    refused c.same.result c.same.ensures c.if-not-same.true (is_smallest trial (bit_row c.union-all.result.bits) (bit_row least) c.union-all.ensures (length-bit_row least) c.least.ensures)

pub returns : goal.returns
returns c =
    let job = c.args.self.now in
    let set = c.args.set.bits in
    let heads = c.heads.result.bits in
    let x = bit_row c.union-all.result.bits in
    let least = c.least.result.bits in
    let trial = mask_trial (rules_of job.program.now) job.given.bits set heads job.program.now.kept (ap (λ m. bit_row m.bits) (c.heads.ensures ∙ ap (λ (m : Masks). m.heads) c.masks.ensures) ∙ job.program.now.same.1) in
    let inside = within_union (bit_row set) (bit_row heads) (length-bit_row set ∙ sym (length-bit_row heads)) (c.is_within.ensures.0 c.if-not-is_within.false) in
    Decides-like _
    (λ whole. accepted trial x (bit_row least) c.union-all.ensures (length-bit_row least) c.least.ensures inside (c.same.ensures.0 c.if-not-same.false) whole)
    (λ ans. unbroken trial x (bit_row least) c.union-all.ensures (length-bit_row least) c.least.ensures ans)
    (Decides-not c.breaks.result c.breaks.ensures)
