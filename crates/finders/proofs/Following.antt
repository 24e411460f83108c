-- What the search finds is what comes next in the branching order.
use Rattle.std.proofs.Common.{◌≡◌, ℕ, List, Some, None, Option, sym, subst, ⊎_elim, MatchOption}
use Rattle.game.specs.Sets.{Row, In, union}
use Rattle.game.specs.Rules.{Rule}
use Rattle.game.specs.AnswerSets.{AnswerSet}
use Rattle.closure.specs.declared.row.Row as code
use Rattle.closure.specs.declared.mask.Mask.{Mask}
use Rattle.closure.specs.Bits.{bit_row}
use Rattle.closure.proofs.Marks.{in_union, union_left, union_right}
use Rattle.finders.specs.declared.finder.Refusal.TheVariants.{Unlisted}
use Rattle.finders.specs.Meanings.{From, start, after}
use Rattle.finders.specs.Jobs.{HeadsTaken}
use Rattle.finders.specs.Orders.{Lexical, branching_order}
use Rattle.finders.specs.Supplied.{branching_lists}
use Rattle.finders.specs.Between.{Between, First, Follows}
use Rattle.finders.specs.Found.{AsRow}
use Rattle.finders.specs.Going.{GoesOn, NotListed, not_listed}
use Rattle.finders.proofs.Sorted.{first_entry, first_end, next_entry, next_end}
use Rattle.finders.proofs.Lexical.{never_both, branching_sorted}
use Rattle.finders.proofs.Turning.{made_of_heads}

-- a first row with P, or none with it
abbrev pub FirstOrNone : {n : ℕ} → (Row → Type 0) → Option (code.Row n) → Type 0
FirstOrNone P found = MatchOption found ((z : Row) → P z → ⊥) (λ x. First P x.marks)

-- what is found as a mask, as a row
pub found_as_row : (P : Row → Type 0) (found : Option Mask) (row : Option (code.Row 96)) → AsRow found row → MatchOption found ((z : Row) → P z → ⊥) (λ x. First P (bit_row x.bits)) → FirstOrNone P row
found_as_row P None None is none = none
found_as_row P None (Some r) is none = absurd is
found_as_row P (Some m) None is first = absurd is
found_as_row P (Some m) (Some r) is first = subst (First P) (sym is) first

module _ (n most : ℕ) (rules : List Rule) (given heads : Row) (known : HeadsTaken n most rules given heads) where
  -- every answer set lies between the given atoms, and those with all heads
  all_between : (high : Row) → high ≡ union given heads → (z : Row) → AnswerSet rules given z → Between rules given given high z
  all_between high e z answer = record {
    answer = answer;
    above = union_right z given;
    below = λ j h. subst (In j) (sym e) (⊎_elim (λ own. union_right given heads j (made_of_heads n most rules given heads known z answer j own)) (union_left given heads j) (in_union z given j h));
  }

  pub goes_from_start : (high : Row) → high ≡ union given heads → (at : From) → at ≡ start → (found : Option (code.Row n)) → FirstOrNone (Between rules given given high) found → GoesOn (branching_order rules given) at found
  goes_from_start high e at begin found f = subst (λ (a : From). GoesOn (branching_order rules given) a found) (sym begin) (go found f)
    where
      go : (found : Option (code.Row n)) → FirstOrNone (Between rules given given high) found → GoesOn (branching_order rules given) start found
      go None none = first_end Lexical never_both (AnswerSet rules given) _ (branching_sorted rules given) (branching_lists rules given) (λ z answer. none z (all_between high e z answer))
      go (Some x) f = first_entry Lexical never_both (AnswerSet rules given) _ (branching_sorted rules given) (branching_lists rules given) x.marks f.is.answer (λ z answer. f.least z (all_between high e z answer))

module _ (n : ℕ) (rules : List Rule) (given : Row) (at : From) (x : Row) (later : at ≡ after x) where
  pub goes_unlisted : (AnswerSet rules given x → ⊥) → NotListed (branching_order rules given) at Unlisted
  goes_unlisted none = not_listed x later (λ has. none ((branching_lists rules given).only x has))

  pub goes_on : AnswerSet rules given x → (found : Option (code.Row n)) → FirstOrNone (Follows rules given x) found → GoesOn (branching_order rules given) at found
  goes_on is found f = subst (λ (a : From). GoesOn (branching_order rules given) a found) (sym later) (go found f)
    where
      go : (found : Option (code.Row n)) → FirstOrNone (Follows rules given x) found → GoesOn (branching_order rules given) (after x) found
      go None none = next_end Lexical never_both (AnswerSet rules given) _ (branching_sorted rules given) (branching_lists rules given) x is (λ z answer less. none z (record { answer = answer; later = less }))
      go (Some y) f = next_entry Lexical never_both (AnswerSet rules given) _ (branching_sorted rules given) (branching_lists rules given) x y.marks is f.is.answer f.is.later (λ z answer less. f.least z (record { answer = answer; later = less }))
