use Rattle.std.proofs.Common.{◌≡◌, ℕ, ◌<◌, true, false, set, replicate, sym, refl, ap, ◌∙◌, subst}
use Rattle.finders.proofs.Maybe.{option_weaker}
use Rattle.game.specs.Sets.{Row, In, union}
use Rattle.closure.specs.declared.mask.Mask.{Mask}
use Rattle.closure.specs.Bits.{bit_row, length-bit_row}
use Rattle.closure.specs.Rows.{marked, minus}
use Rattle.closure.proofs.Marks.{union_left}
use Rattle.programs.specs.Programs.{rules_of}
use Rattle.finders.specs.declared.bounding.Bounds.{Bounds}
use Rattle.finders.specs.Between.{Lowest, Narrower}
use Rattle.finders.proofs.Splitting.{Node, One, one_from, open_below, still_around, lone_refused, lone_first, first_absent, first_present, none_either, absent_fewer, present_fewer}
use Rattle.finders.proofs.bounding.Bounds.+search.Goals as goal

-- the bounds, and the closer ones that they are brought to
node_of :
    (b : Bounds) (low high : Mask)
    → Narrower (rules_of b.job.program.now) (bit_row b.job.given.bits) (bit_row b.low.bits) (bit_row b.high.bits) (bit_row low.bits) (bit_row high.bits)
    → Node 96 (rules_of b.job.program.now) (bit_row b.job.given.bits) (bit_row b.low.bits) (bit_row b.high.bits) (bit_row low.bits) (bit_row high.bits)
node_of b low high closer = record { wide = length-bit_row b.job.given.bits; apart = b.apart; around = b.around; l_wide = length-bit_row low.bits; closer = closer }

-- the lowest open atom, and the set of it alone, as the code makes them
module _ (low high : Mask) where
  lowest_of : (free : Row) (a : ℕ) → free ≡ minus (bit_row high.bits) (bit_row low.bits) → In a free × ((j : ℕ) → j < a → In j free → ⊥) → Lowest (minus (bit_row high.bits) (bit_row low.bits)) a
  lowest_of free a is first = subst (λ s. Lowest s a) is (record { inside = first.0; none_below = first.1 })

  one_of :
      (a : ℕ) → Lowest (minus (bit_row high.bits) (bit_row low.bits)) a → (clear : Row) (one : Mask)
      → clear ≡ replicate 96 false → bit_row one.bits ≡ set clear a true → One a (bit_row one.bits)
  one_of a first clear one none is = one_from 96 a (bit_row one.bits) (open_below 96 (bit_row low.bits) (bit_row high.bits) a (length-bit_row high.bits) first) (is ∙ ap (λ s. set s a true) none)

pub search-requires : goal.search-requires
search-requires t c =
    let node = node_of c.args.self.now c.in_ok-closer.closer.low c.in_ok-closer.closer.high c.in_ok-closer.ensures in
    let first = lowest_of c.in_ok-closer.closer.low c.in_ok-closer.closer.high _ _ c.minus.ensures c.in-Some.ensures in
    let is_one = one_of c.in_ok-closer.closer.low c.in_ok-closer.closer.high _ first _ c.with-one.result c.clear.ensures c.with-one.ensures in
    (subst (λ k. marked (minus (bit_row c.minus-2.result.bits) (bit_row c.in_ok-closer.closer.low.bits)) < k) c.decreases (absent_fewer node c.in-Some.atom (bit_row c.with-one.result.bits) (bit_row c.minus-2.result.bits) (union (bit_row c.in_ok-closer.closer.low.bits) (bit_row c.with-one.result.bits)) is_one first c.minus-2.ensures refl (length-bit_row c.in_ok-closer.closer.high.bits) (length-bit_row c.args.self.now.high.bits)), tt)

pub returns-in-Some-search : goal.returns-in-Some-search
returns-in-Some-search t c =
    let node = node_of c.args.self.now c.in_ok-closer.closer.low c.in_ok-closer.closer.high c.in_ok-closer.ensures in
    let first = lowest_of c.in_ok-closer.closer.low c.in_ok-closer.closer.high _ _ c.minus.ensures c.in-Some.ensures in
    let is_one = one_of c.in_ok-closer.closer.low c.in_ok-closer.closer.high _ first _ c.with-one.result c.clear.ensures c.with-one.ensures in
    first_absent node c.in-Some.atom (bit_row c.with-one.result.bits) (bit_row c.minus-2.result.bits) (union (bit_row c.in_ok-closer.closer.low.bits) (bit_row c.with-one.result.bits)) is_one first c.minus-2.ensures refl (bit_row c.in-Some-search.set.bits) c.in-Some-search.ensures

pub search-requires-2 : goal.search-requires-2
search-requires-2 t c =
    let node = node_of c.args.self.now c.in_ok-closer.closer.low c.in_ok-closer.closer.high c.in_ok-closer.ensures in
    let first = lowest_of c.in_ok-closer.closer.low c.in_ok-closer.closer.high _ _ c.minus.ensures c.in-Some.ensures in
    let is_one = one_of c.in_ok-closer.closer.low c.in_ok-closer.closer.high _ first _ c.with-one.result c.clear.ensures c.with-one.ensures in
    (subst (λ k. marked (minus (bit_row c.in_ok-closer.closer.high.bits) (bit_row c.union.result.bits)) < k) c.decreases (present_fewer node c.in-Some.atom (bit_row c.with-one.result.bits) (bit_row c.minus-2.result.bits) (bit_row c.union.result.bits) is_one first c.minus-2.ensures c.union.ensures (length-bit_row c.in_ok-closer.closer.high.bits) (length-bit_row c.args.self.now.high.bits)), tt)

pub returns-in_default : goal.returns-in_default
returns-in_default t c =
    let node = node_of c.args.self.now c.in_ok-closer.closer.low c.in_ok-closer.closer.high c.in_ok-closer.ensures in
    let closed = subst (λ s. (a : ℕ) → In a s → ⊥) c.minus.ensures c.in_default.ensures in
    option_weaker c.only.result c.only.ensures (lone_refused node closed) (λ x (e, answer). lone_first node closed (bit_row x.bits) e answer)

pub returns : goal.returns
returns t c =
    let node = node_of c.args.self.now c.in_ok-closer.closer.low c.in_ok-closer.closer.high c.in_ok-closer.ensures in
    let first = lowest_of c.in_ok-closer.closer.low c.in_ok-closer.closer.high _ _ c.minus.ensures c.in-Some.ensures in
    let is_one = one_of c.in_ok-closer.closer.low c.in_ok-closer.closer.high _ first _ c.with-one.result c.clear.ensures c.with-one.ensures in
    option_weaker c.search-2.result c.search-2.ensures
    (none_either node c.in-Some.atom (bit_row c.with-one.result.bits) (bit_row c.minus-2.result.bits) (bit_row c.union.result.bits) is_one first c.minus-2.ensures c.union.ensures c.in_default-search.ensures)
    (λ x. first_present node c.in-Some.atom (bit_row c.with-one.result.bits) (bit_row c.minus-2.result.bits) (bit_row c.union.result.bits) is_one first c.minus-2.ensures c.union.ensures c.in_default-search.ensures (bit_row x.bits))

pub invariant_of-present : goal.invariant_of-present
invariant_of-present t c =
    let node = node_of c.args.self.now c.in_ok-closer.closer.low c.in_ok-closer.closer.high c.in_ok-closer.ensures in
    record {
      around = λ a inside. subst (In a) (sym c.union.ensures) (union_left (bit_row c.in_ok-closer.closer.low.bits) (bit_row c.with-one.result.bits) a (still_around node a inside));
      apart = node.apart;
    }
