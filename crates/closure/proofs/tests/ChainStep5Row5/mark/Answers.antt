use Rattle.std.proofs.Common.{◌≡◌, ℕ, ◌+◌, ◌<◌, ◌≤◌, true, false, ◌||◌, ◌≢◌, length, get_or, set, sym, ap, ◌∙◌, arith, below_more}
use Rattle.std.proofs.lemmas.List.{get_or-set_same, get_or-set_other}
use Rattle.std.proofs.lemmas.Bool.{or_right}
use Rattle.game.specs.Sets.{Row}
use Rattle.closure.proofs.Marks.{or_nothing}
use Rattle.closure.proofs.tests.ChainStep5Row5.mark.Goals as goal
use Rattle.closure.proofs.tests.ChainStep5Row5.mark.Goals.{then-has, else-has}

-- the next place, whether it was marked or not
next :
    (was from is new : Row) (a : ℕ)
    → ((k : ℕ) → k < a → get_or is k false ≡ (get_or was k false || get_or from (k + 1) false)) × ((k : ℕ) → a ≤ k → get_or is k false ≡ get_or was k false)
    → ((k : ℕ) → k ≢ a → get_or new k false ≡ get_or is k false) → get_or new a false ≡ (get_or was a false || get_or from (a + 1) false)
    → ((k : ℕ) → k < a + 1 → get_or new k false ≡ (get_or was k false || get_or from (k + 1) false)) × ((k : ℕ) → a + 1 ≤ k → get_or new k false ≡ get_or was k false)
next was from is new a inv other here = (
  below_more (λ k. get_or new k false ≡ (get_or was k false || get_or from (k + 1) false)) a
      (λ k l. other k (omega arith) ∙ inv.0 k l) here,
  λ k l. other k (omega arith) ∙ inv.1 k (omega arith),
)

pub loop-a-preserved : goal.loop-a-preserved
loop-a-preserved c =
    let was = c.args.out.now.marks in
    let from = c.args.from.now.marks in
    let is = c.loop-a.out.marks in
    let new = c.if-has.out.marks in
    let a = c.loop-a.a in
    let told = c.has.ensures in
    elim c.if-has.branch [
      | then-has w ↦
          let put : new ≡ set is a true = cc (w.put.ensures, w.out-is) in
          let wide = c.loop-a.out.wide in
          let within : a < length is = omega (arith, wide) in
          let follows : get_or from (a + 1) false ≡ true = sym told ∙ w.if-has.true in
          next was from is new a c.loop-a.invariant
          (λ k ne. ap (λ (r : Row). get_or r k false) put ∙ get_or-set_other is a k true false ne)
          (ap (λ (r : Row). get_or r a false) put ∙ get_or-set_same is a true false within ∙ sym (or_right (get_or was a false) _ follows))
      | else-has w ↦
          let kept : new ≡ is = cc w.out-is in
          let none : get_or from (a + 1) false ≡ false = sym told ∙ w.if-has.false in
          next was from is new a c.loop-a.invariant (λ k ne. ap (λ (r : Row). get_or r k false) kept)
          (
          ap (λ (r : Row). get_or r a false) kept ∙ c.loop-a.invariant.1 a (omega arith) ∙ or_nothing (get_or was a false)
          ∙ ap (λ b. get_or was a false || b) (sym none)
          )
    ]
