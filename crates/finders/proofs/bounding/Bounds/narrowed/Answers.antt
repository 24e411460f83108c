use Rattle.std.proofs.Common.{◌≡◌, List, sym, ap, ◌∙◌, subst}
use Rattle.std.proofs.lemmas.Bool.Decides.{not_from_Decides}
use Rattle.game.specs.Sets.{Row, In, union}
use Rattle.game.specs.Rules.{Rule}
use Rattle.game.specs.AnswerSets.{Smallest}
use Rattle.closure.specs.declared.mask.Mask.{Mask}
use Rattle.closure.specs.Bits.{bit_row, length-bit_row}
use Rattle.closure.specs.Rows.{minus}
use Rattle.closure.proofs.Marks.{union_left}
use Rattle.programs.specs.Programs.{rules_of}
use Rattle.finders.specs.declared.bounding.Bounds.{Bounds}
use Rattle.finders.proofs.Closer.{Lessening, Narrowing, underived_none, crossed_none, broken_none, narrower}
use Rattle.finders.proofs.bounding.Bounds.narrowed.Goals as goal

-- what may be in an answer set, and what must be, as the code brings them closer
less_of :
    (b : Bounds) (u h : Mask) (out : Row)
    → Smallest (rules_of b.job.program.now) (bit_row b.job.given.bits) (bit_row b.low.bits) (bit_row u.bits) → out ≡ minus (bit_row b.high.bits) (bit_row u.bits) → bit_row h.bits ≡ minus (bit_row b.high.bits) out
    → Lessening 96 (rules_of b.job.program.now) (bit_row b.job.given.bits) (bit_row b.low.bits) (bit_row b.high.bits) (bit_row u.bits) (bit_row h.bits)
less_of b u h out derivable out_is h_is = record {
  given_wide = length-bit_row b.job.given.bits;
  u_wide = length-bit_row u.bits;
  derivable = derivable;
  h_is = h_is ∙ ap (minus (bit_row b.high.bits)) out_is;
}

narrowing_of :
    {rules : List Rule} {given low high u h : Row} → Lessening 96 rules given low high u h → (v l : Mask)
    → Smallest rules given h (bit_row v.bits) → bit_row l.bits ≡ union low (bit_row v.bits) → Narrowing 96 rules given low high u (bit_row v.bits) (bit_row l.bits) h
narrowing_of less v l derived l_is = record { less = less; v_wide = length-bit_row v.bits; derived = derived; l_is = l_is }

pub returns-then-not-is_within : goal.returns-then-not-is_within
returns-then-not-is_within c =
    let less = less_of c.args.self.now c.least-derivable.result c.minus-high.result _ c.least-derivable.ensures c.minus.ensures c.minus-high.ensures in
    underived_none less (not_from_Decides _ c.is_within.ensures c.if-not-is_within.true)

pub returns-then-not-is_within-2 : goal.returns-then-not-is_within-2
returns-then-not-is_within-2 c =
    let less = less_of c.args.self.now c.least-derivable.result c.minus-high.result _ c.least-derivable.ensures c.minus.ensures c.minus-high.ensures in
    let narrowing = narrowing_of less c.least.result c.union-low.result c.least.ensures c.union-low.ensures in
    crossed_none narrowing (not_from_Decides _ c.is_within-2.ensures c.if-not-is_within-2.true)

pub returns-then-breaks : goal.returns-then-breaks
returns-then-breaks c =
    let less = less_of c.args.self.now c.least-derivable.result c.minus-high.result _ c.least-derivable.ensures c.minus.ensures c.minus-high.ensures in
    let narrowing = narrowing_of less c.least.result c.union-low.result c.least.ensures c.union-low.ensures in
    broken_none narrowing (c.breaks.ensures.0 c.if-breaks.true)

pub returns : goal.returns
returns c =
    let less = less_of c.args.self.now c.least-derivable.result c.minus-high.result _ c.least-derivable.ensures c.minus.ensures c.minus-high.ensures in
    let narrowing = narrowing_of less c.least.result c.union-low.result c.least.ensures c.union-low.ensures in
    narrower narrowing (c.is_within-2.ensures.0 c.if-not-is_within-2.false)

pub invariant_of-result : goal.invariant_of-result
invariant_of-result c = record {
  around = λ a inside. subst (In a) (sym c.union-low.ensures) (union_left (bit_row c.args.self.now.low.bits) (bit_row c.least.result.bits) a (c.args.self.now.around a inside));
  apart = c.args.self.now.apart;
}
