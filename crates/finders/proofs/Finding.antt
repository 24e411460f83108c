-- What the search upward finds is what comes next in the counting order.
use Rattle.std.proofs.Common.{◌≡◌, ℕ, false, ◌⊎◌, List, length, replicate, Some, None, Option, sym, ◌∙◌, subst, inl, inr, ⊎_elim, arith, MatchOption}
use Rattle.std.proofs.lemmas.List.{length-replicate, get_or-replicate, get_or_past}
use Rattle.game.specs.Sets.{Row}
use Rattle.game.specs.Rules.{Rule}
use Rattle.game.specs.AnswerSets.{AnswerSet}
use Rattle.closure.specs.declared.row.Row as code
use Rattle.finders.specs.declared.finder.Refusal.TheVariants.{Unlisted}
use Rattle.finders.specs.Meanings.{From, start, after}
use Rattle.finders.specs.Orders.{Lower, counting_order}
use Rattle.finders.specs.Supplied.{counting_lists}
use Rattle.finders.specs.Going.{GoesOn, NotListed, not_listed}
use Rattle.finders.specs.Upward.{HeadsAre, SetOf, UpFrom, Next, Last, First, NoneFrom}
use Rattle.finders.proofs.Sorted.{first_entry, first_end, next_entry, next_end}
use Rattle.finders.proofs.Binary.{never_both, counting_sorted, clear_below}
use Rattle.finders.proofs.Searching.{answer_set_of, lower_up}

-- the clear row comes first
clear_up : (n : ℕ) (z : Row) → length z ≡ n → UpFrom (replicate n false) z
clear_up n z wide =
    clear_below n (replicate n false) z (length-replicate n false ∙ sym wide)
    (λ k less. get_or-replicate n k false false less)
    (λ k from. let long = length-replicate n false in get_or_past (replicate n false) k false (omega arith) ∙ sym (get_or_past z k false (omega arith)))

same_or : (y z : Row) → UpFrom y z → (z ≡ y) ⊎ Lower y z
same_or y z up = ⊎_elim (λ e. inl (sym e)) inr up

abbrev pub FirstOrNone : {n : ℕ} → List Rule → Row → Row → Option (code.Row n) → Type 0
FirstOrNone rules given s found = MatchOption found (NoneFrom rules given s) (λ y. First rules given s y.marks)

module _ (n : ℕ) (rules : List Rule) (given hs : Row) (given_wide : length given ≡ n) (are : HeadsAre n rules hs) where
  sets : (z : Row) → AnswerSet rules given z → SetOf hs z
  sets = answer_set_of n rules given hs given_wide are

  up : (z : Row) → AnswerSet rules given z → UpFrom (replicate n false) z
  up z answer = clear_up n z (answer.width ∙ given_wide)

  pub goes_from_start : (s : Row) → s ≡ replicate n false → (at : From) → at ≡ start → (found : Option (code.Row n)) → FirstOrNone rules given s found → GoesOn (counting_order rules given) at found
  goes_from_start s clear at begin found f =
      subst (λ (a : From). GoesOn (counting_order rules given) a found) (sym begin) (go found (subst (λ (r : Row). FirstOrNone rules given r found) clear f))
    where
      go : (found : Option (code.Row n)) → FirstOrNone rules given (replicate n false) found → GoesOn (counting_order rules given) start found
      go None none = first_end Lower never_both (AnswerSet rules given) _ (counting_sorted rules given) (counting_lists rules given) (λ z answer. none z answer (up z answer))
      go (Some y) f = first_entry Lower never_both (AnswerSet rules given) _ (counting_sorted rules given) (counting_lists rules given) y.marks f.answer (λ z answer. same_or y.marks z (f.least z answer (up z answer)))

  module _ (at : From) (x : Row) (later : at ≡ after x) where
    there : (found : Option (code.Row n)) → GoesOn (counting_order rules given) (after x) found → GoesOn (counting_order rules given) at found
    there found on = subst (λ (a : From). GoesOn (counting_order rules given) a found) (sym later) on

    pub goes_unlisted : (AnswerSet rules given x → ⊥) → NotListed (counting_order rules given) at Unlisted
    goes_unlisted none = not_listed x later (λ has. none ((counting_lists rules given).only x has))

    module _ (is : AnswerSet rules given x) where
      pub goes_on : (s : Row) → Next hs x s → (found : Option (code.Row n)) → FirstOrNone rules given s found → GoesOn (counting_order rules given) at found
      goes_on s next found f = there found (go found f)
        where
          go : (found : Option (code.Row n)) → FirstOrNone rules given s found → GoesOn (counting_order rules given) (after x) found
          go None none = next_end Lower never_both (AnswerSet rules given) _ (counting_sorted rules given) (counting_lists rules given) x is (λ z answer less. none z answer (next.least z (sets z answer) less))
          go (Some y) f =
              next_entry Lower never_both (AnswerSet rules given) _ (counting_sorted rules given) (counting_lists rules given) x y.marks is f.answer
              (lower_up x s y.marks next.above f.from)
              (λ z answer less. same_or y.marks z (f.least z answer (next.least z (sets z answer) less)))

      pub goes_to_end : Last hs x → GoesOn {n = n} (counting_order rules given) at None
      goes_to_end last = there None (next_end Lower never_both (AnswerSet rules given) _ (counting_sorted rules given) (counting_lists rules given) x is (λ z answer less. last z (sets z answer) less))
