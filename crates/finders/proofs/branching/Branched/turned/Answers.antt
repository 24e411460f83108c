use Rattle.std.proofs.Common.{true, refl, length, set, sym, ap, ◌∙◌}
use Rattle.game.specs.Sets.{union}
use Rattle.closure.specs.Bits.{bit_row, length-bit_row}
use Rattle.closure.specs.Rows.{minus}
use Rattle.programs.specs.declared.masks.Masks.{Masks}
use Rattle.finders.proofs.Turning.{Made, turned_from}
use Rattle.finders.proofs.branching.Branched.turned.Goals as goal

pub returns : goal.returns
returns c =
    let made : Made 96 (bit_row c.args.self.now.job.given.bits) (bit_row c.args.self.now.job.program.now.masks.heads.bits) (bit_row c.args.entry.bits) (bit_row c.below-below.result.bits) (bit_row c.minus-kept.result.bits) c.args.atom (bit_row c.with-low.result.bits) (bit_row c.union-high.result.bits) =
    record {
      inside = c.requires;
      entry_wide = length-bit_row c.args.entry.bits;
      heads_wide = length-bit_row c.args.self.now.job.program.now.masks.heads.bits;
      union_wide = sym (ap length c.union.ensures) ∙ length-bit_row c.union.result.bits;
      places = c.below-below.ensures;
      k_is = c.minus-kept.ensures ∙ ap (minus (bit_row c.args.entry.bits)) c.minus.ensures;
      low_is = c.with-low.ensures ∙ ap (λ s. set s c.args.atom true) c.union.ensures;
      high_is = c.union-high.ensures ∙ ap (union (bit_row c.with-low.result.bits)) (c.minus-2.ensures ∙ ap (λ m. minus (bit_row m.bits) (bit_row c.below-below.result.bits)) (c.heads.ensures ∙ ap (λ (m : Masks). m.heads) c.masks.ensures));
    } in
    (refl, turned_from made)

pub invariant_of-result : goal.invariant_of-result
invariant_of-result c =
    let made : Made 96 (bit_row c.args.self.now.job.given.bits) (bit_row c.args.self.now.job.program.now.masks.heads.bits) (bit_row c.args.entry.bits) (bit_row c.below-below.result.bits) (bit_row c.minus-kept.result.bits) c.args.atom (bit_row c.with-low.result.bits) (bit_row c.union-high.result.bits) =
    record {
      inside = c.requires;
      entry_wide = length-bit_row c.args.entry.bits;
      heads_wide = length-bit_row c.args.self.now.job.program.now.masks.heads.bits;
      union_wide = sym (ap length c.union.ensures) ∙ length-bit_row c.union.result.bits;
      places = c.below-below.ensures;
      k_is = c.minus-kept.ensures ∙ ap (minus (bit_row c.args.entry.bits)) c.minus.ensures;
      low_is = c.with-low.ensures ∙ ap (λ s. set s c.args.atom true) c.union.ensures;
      high_is = c.union-high.ensures ∙ ap (union (bit_row c.with-low.result.bits)) (c.minus-2.ensures ∙ ap (λ m. minus (bit_row m.bits) (bit_row c.below-below.result.bits)) (c.heads.ensures ∙ ap (λ (m : Masks). m.heads) c.masks.ensures));
    } in
    record { around = (turned_from made).around; apart = c.args.self.now.apart }
