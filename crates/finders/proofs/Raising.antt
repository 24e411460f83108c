-- One more: the next set of heads, as a binary number.
use Rattle.std.proofs.Common.{◌≡◌, ℕ, ◌<◌, ◌≤◌, true, false, ◌≢◌, length, get_or, set, sym, ◌∙◌, subst, inr, ⊎_elim, arith}
use Rattle.std.proofs.lemmas.List.{length-set, get_or-set_same, get_or-set_other}
use Rattle.std.proofs.lemmas.Bool.{cases_Bool, cases_order, both_ways}
use Rattle.game.specs.Sets.{Row, In}
use Rattle.game.proofs.Rows.{in_below}
use Rattle.closure.specs.Rows.{minus}
use Rattle.closure.proofs.Marks.{in_minus, minus_in}
use Rattle.finders.specs.Orders.{Lower}
use Rattle.finders.specs.Upward.{SetOf, UpFrom, Next, Last}
use Rattle.finders.proofs.Binary.{clear_below}

-- below p no head is free and the row is clear; from there on the row is as the set
pub record Cleared (hs s row : Row) (p : ℕ) : Type 0 where
  pub taken : (k : ℕ) → k < p → get_or (minus hs s) k false ≡ false
  pub clear : (k : ℕ) → k < p → get_or row k false ≡ false
  pub same : (k : ℕ) → p ≤ k → get_or row k false ≡ get_or s k false

module _ (hs s : Row) (of : SetOf hs s) where
  free_is : (k : ℕ) → In k hs → get_or s k false ≡ false → In k (minus hs s)
  free_is k head out = minus_in hs s k head (both_ways (get_or s k false) out)

  -- no free head is left
  pub last_from : (row : Row) (p : ℕ) → length hs ≤ p → Cleared hs s row p → Last hs s
  last_from row p past c z z-of (k, above, out, in') =
      let head = z-of.within k in' in
      let below = in_below hs k head in
      both_ways (get_or (minus hs s) k false) (c.taken k (omega arith)) (free_is k head out)

  -- p is the lowest free head
  module _ (row : Row) (p : ℕ) (wide : length row ≡ length hs) (c : Cleared hs s row p) (free : In p (minus hs s)) where
    next : Row
    next = set row p true

    head : In p hs
    head = (in_minus hs s p free).0

    out : get_or s p false ≡ false
    out = ⊎_elim (λ e. absurd ((in_minus hs s p free).1 e)) (λ e. e) (cases_Bool (get_or s p false))

    inside : p < length row
    inside = let below = in_below hs p head in omega arith

    here : In p (set row p true)
    here = get_or-set_same row p true false inside

    other : (k : ℕ) → k ≢ p → get_or (set row p true) k false ≡ get_or row k false
    other k apart = get_or-set_other row p k true false apart

    after : (k : ℕ) → p < k → get_or (set row p true) k false ≡ get_or s k false
    after k more = other k (omega arith) ∙ c.same k (omega arith)

    before : (k : ℕ) → k < p → get_or (set row p true) k false ≡ false
    before k less = other k (omega arith) ∙ c.clear k less

    pub next_from : Next hs s (set row p true)
    next_from = record {
      set = record { width = length-set row p true ∙ wide; within = within };
      above = (p, λ k more. sym (after k more), out, here);
      least = least;
    }
      where
        within : (k : ℕ) → In k (set row p true) → In k hs
        within k h =
            ⊎_elim (λ same. subst (λ i. In i hs) (sym same) head)
            (⊎_elim (λ less. absurd (both_ways (get_or (set row p true) k false) (before k less) h)) (λ more. of.within k (sym (after k more) ∙ h)))
            (cases_order k p)

        -- what comes after s has a free head that s lacks, the lowest or a higher one
        least : (z : Row) → SetOf hs z → Lower s z → UpFrom (set row p true) z
        least z z-of (k, above, lacks, has) =
            ⊎_elim
            (λ at.
            clear_below p (set row p true) z (length-set row p true ∙ wide ∙ sym z-of.width) before
            (λ j from.
            ⊎_elim (λ same. subst (λ i. get_or (set row p true) i false ≡ get_or z i false) (sym same) (here ∙ sym (subst (λ i. In i z) at has)))
            (⊎_elim (λ less. absurd (omega arith)) (λ more. after j more ∙ above j (omega arith)))
            (cases_order j p)))
            (⊎_elim
            (λ less. absurd (both_ways (get_or (minus hs s) k false) (c.taken k less) (free_is k (z-of.within k has) lacks)))
            (λ more. inr (k, λ j further. after j (omega arith) ∙ above j further, after k more ∙ lacks, has)))
            (cases_order k p)
