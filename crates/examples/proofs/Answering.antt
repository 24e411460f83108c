-- A test of answer sets that computes, and the list of all answer sets that it keeps of the sets of heads.
use Rattle.std.proofs.Common.{◌≡◌, Bool, true, false, not, ◌&&◌, List, [], ◌∷◌, length, Decides, filter, refl, subst}
use Rattle.std.proofs.lemmas.Bool.{false≢true, true≢false, not-true, not_from_false}
use Rattle.std.proofs.lemmas.Bool.Decides.{Decides-like, Decides-and}
use Rattle.game.specs.Sets.{Row, union}
use Rattle.game.specs.Rules.{Rule, is_head}
use Rattle.game.specs.AnswerSets.{AnswerSet, Smallest}
use Rattle.game.specs.Derives.{derives, SmallestClosed}
use Rattle.game.specs.Heads.{Lists, Among, sets_of_heads}
use Rattle.game.proofs.Deriving.{HeadsBelow, derives_grows, closed_smallest, smallest_closed, one_closed}
use Rattle.game.proofs.HeadSets.{answers_kept}
use Rattle.game.proofs.Rows.{length-union}
use Rattle.closure.proofs.Existing.{closure_of, closure_smallest}
use Rattle.programs.specs.Limits.{all_fit}
use Rattle.solving.specs.Tests.{violated}
use Rattle.solving.proofs.Testing.{fit_heads, violated_allowed, allowed_violated}

-- two marks, and two rows, are the same
abbrev pub same_mark : Bool → Bool → Bool
same_mark true y = y
same_mark false y = not y

abbrev pub same : Row → Row → Bool
same [] [] = true
same [] (y ∷ t) = false
same (x ∷ s) [] = false
same (x ∷ s) (y ∷ t) = same_mark x y && same s t

same_mark_decides : (x y : Bool) → Decides (same_mark x y) (x ≡ y)
same_mark_decides true true = (λ _. refl, λ _. refl)
same_mark_decides true false = (λ e. absurd (false≢true e), λ e. absurd (true≢false e))
same_mark_decides false true = (λ e. absurd (false≢true e), λ e. absurd (false≢true e))
same_mark_decides false false = (λ _. refl, λ _. refl)

pub same_decides : (s t : Row) → Decides (same s t) (s ≡ t)
same_decides [] [] = (λ _. refl, λ _. refl)
same_decides [] (y ∷ t) = (λ e. absurd (false≢true e), λ e. cc)
same_decides (x ∷ s) [] = (λ e. absurd (false≢true e), λ e. cc)
same_decides (x ∷ s) (y ∷ t) = Decides-like _ (λ (e, k). cc) (λ e. (cc, cc)) (Decides-and _ _ (same_mark_decides x y) (same_decides s t))

-- for a set of heads i: with the given atoms it is the smallest closed set of its reduct, and breaks no constraint
unfoldable pub is_answer : List Rule → Row → Row → Bool
is_answer rules given i = let all : Row = union i given in same (closure_of (length given) (derives rules all) given) all && not (violated rules all)

module _ (rules : List Rule) (given : Row) (fits : all_fit (length given) rules ≡ true) where
  below : HeadsBelow rules (length given)
  below = fit_heads (length given) rules fits

  module _ (i : Row) (heads : Among (length given) (is_head rules) i) where
    all : Row
    all = union i given

    found : SmallestClosed (length given) (derives rules all) given (closure_of (length given) (derives rules all) given)
    found = (closure_smallest (length given) (derives rules all) given refl (λ s t _ _ within a. derives_grows rules all s t a within)).1

    abbrev Passes : Type 0
    Passes = (closure_of (length given) (derives rules all) given ≡ all) × (violated rules all ≡ false)

    accepted : Passes → AnswerSet rules given i
    unfolding all
    accepted (least, unbroken) = record {
      width = heads.width;
      heads = heads.passes;
      smallest = subst (Smallest rules given all) least (closed_smallest (length given) rules all below given _ found);
      allowed = violated_allowed rules all unbroken;
    }

    passes : AnswerSet rules given i → Passes
    unfolding all
    passes answer = (
      one_closed (length given) (derives rules all) given _ all found (smallest_closed (length given) rules all below given all (length-union i given heads.width) answer.smallest),
      allowed_violated rules all answer.allowed,
    )

    pub is_answer_decides : Decides (is_answer rules given i) (AnswerSet rules given i)
    unfolding is_answer all
    is_answer_decides =
        Decides-like _ accepted passes (Decides-and _ _ (same_decides _ all) (not-true (violated rules all), not_from_false (violated rules all)))

  -- all answer sets, each once
  pub answers_listed : Lists (filter (is_answer rules given) (sets_of_heads rules (length given))) (AnswerSet rules given)
  answers_listed = answers_kept rules given (is_answer rules given) is_answer_decides
