use Rattle.std.proofs.Common.{◌≡◌, ℕ, Bool, true, suc, ◌-◌, ◌<◌, false, get_or, sym, ap, ◌∙◌, subst, arith}
use Rattle.std.proofs.lemmas.Bool.{both_ways}
use Rattle.game.specs.Sets.{Row, In}
use Rattle.closure.specs.Bits.{bit_row, length-bit_row}
use Rattle.closure.specs.Rows.{minus}
use Rattle.closure.proofs.Marks.{in_below}
use Rattle.programs.specs.Programs.{rules_of}
use Rattle.programs.specs.declared.masks.Masks.{Masks}
use Rattle.masked.specs.declared.job.MaskJob.{MaskJob}
use Rattle.finders.specs.Between.{Between, First}
use Rattle.finders.proofs.Takings.{taken_of}
use Rattle.finders.proofs.Turning.{NoneFrom, none_shut, none_turned, none_after, first_turned}
use Rattle.finders.proofs.branching.Branched.after.Goals as goal

-- none stands from the atom before on
none_from :
    (j : MaskJob) (entry : Row) (n : ℕ) → 0 < n
    → NoneFrom (rules_of j.program.now) (bit_row j.given.bits) entry n → NoneFrom (rules_of j.program.now) (bit_row j.given.bits) entry (suc (n - 1))
none_from j entry n more none = subst (NoneFrom (rules_of j.program.now) (bit_row j.given.bits) entry) last none
  where
    last : n ≡ suc (n - 1)
    last = omega arith

-- the entry lacks the head at which it is turned
turned_at : (heads entry free : Row) → free ≡ minus heads entry → (a : ℕ) (r : Bool) → r ≡ get_or free a false → r ≡ true → In a (minus heads entry)
turned_at heads entry free is a r e has = sym (ap (λ s. get_or s a false) is) ∙ sym e ∙ has

pub loop-atom-init : goal.loop-atom-init
loop-atom-init c = (
  omega arith,
  λ z answer j past (agree, lacks, has).
      let inside = in_below z j has in
      let wide = answer.width ∙ length-bit_row c.args.self.now.job.given.bits in
      absurd (omega (arith, past, inside, wide)),
)

pub returns-in-Some : goal.returns-in-Some
returns-in-Some c =
    let none = none_from c.args.self.now.job (bit_row c.args.entry.bits) c.loop-atom.atom c.loop-atom-test.true c.loop-atom.invariant.1 in
    let turn = turned_at (bit_row c.args.self.now.job.program.now.masks.heads.bits) (bit_row c.args.entry.bits) _ (c.minus-open.ensures ∙ ap (λ m. minus (bit_row m.bits) (bit_row c.args.entry.bits)) (c.heads.ensures ∙ ap (λ (m : Masks). m.heads) c.masks.ensures)) _ _ c.has.ensures c.if-has.true in
    first_turned 96 96 _ _ _ _ (taken_of c.args.self.now) c.requires _ _ _ c.turned.ensures.1 turn none (bit_row c.in-Some.set.bits)
    (subst (λ j. First (Between (rules_of j.program.now) (bit_row j.given.bits) (bit_row c.turned.result.low.bits) (bit_row c.turned.result.high.bits)) (bit_row c.in-Some.set.bits)) c.turned.ensures.0 c.in-Some.ensures)

pub loop-atom-preserved-in_default : goal.loop-atom-preserved-in_default
loop-atom-preserved-in_default c =
    let none = none_from c.args.self.now.job (bit_row c.args.entry.bits) c.loop-atom.atom c.loop-atom-test.true c.loop-atom.invariant.1 in
    let turn = turned_at (bit_row c.args.self.now.job.program.now.masks.heads.bits) (bit_row c.args.entry.bits) _ (c.minus-open.ensures ∙ ap (λ m. minus (bit_row m.bits) (bit_row c.args.entry.bits)) (c.heads.ensures ∙ ap (λ (m : Masks). m.heads) c.masks.ensures)) _ _ c.has.ensures c.if-has.true in (
      omega (arith, c.loop-atom.invariant.0),
      none_turned 96 96 _ _ _ _ (taken_of c.args.self.now) c.requires _ _ _ c.turned.ensures.1 turn none
          (subst (λ j. (i : Row) → Between (rules_of j.program.now) (bit_row j.given.bits) (bit_row c.turned.result.low.bits) (bit_row c.turned.result.high.bits) i → ⊥) c.turned.ensures.0 c.in_default.ensures),
    )

pub loop-atom-preserved : goal.loop-atom-preserved
loop-atom-preserved c =
    let none = none_from c.args.self.now.job (bit_row c.args.entry.bits) c.loop-atom.atom c.loop-atom-test.true c.loop-atom.invariant.1 in (
      omega (arith, c.loop-atom.invariant.0),
      none_shut 96 96 _ _ _ _ (taken_of c.args.self.now) c.requires _ none
          (λ turn. both_ways c.has.result c.if-has.false (c.has.ensures ∙ ap (λ s. get_or s (c.loop-atom.atom - 1) false) (c.minus-open.ensures ∙ ap (λ m. minus (bit_row m.bits) (bit_row c.args.entry.bits)) (c.heads.ensures ∙ ap (λ (m : Masks). m.heads) c.masks.ensures)) ∙ turn)),
    )

pub returns : goal.returns
returns c =
    let zero-now : c.loop-atom.atom ≡ 0 = omega (arith, c.loop-atom-test.false) in
    none_after 96 96 _ _ _ _ (taken_of c.args.self.now) c.requires (subst (NoneFrom (rules_of c.args.self.now.job.program.now) (bit_row c.args.self.now.job.given.bits) (bit_row c.args.entry.bits)) zero-now c.loop-atom.invariant.1)
