-- A set that is handed on by fixing it is a set of given atoms: the stable sets are the answer sets, joined with it.
use Rattle.std.proofs.Common.{◌≡◌, ℕ, ◌<◌, Bool, true, false, ◌&&◌, ◌||◌, ◌⊎◌, ◌↔◌, List, ◌++◌, length, get_or, sym, ◌∙◌, subst, inl, inr}
use mathlib.Core.Logic.Iff
use Rattle.std.proofs.ByRecursion.{All-weaker}
use Rattle.std.proofs.lemmas.Bool.{and_parts, and_from, or_cases, or_left, or_right}
use Rattle.game.specs.Sets.{Row, In, Within, union}
use Rattle.game.specs.Rules.{Rule, stands, is_head, PlainIn, Obeys}
use Rattle.game.specs.AnswerSets.{AnswerSet, Smallest, Allowed}
use Rattle.game.specs.Published.{reduct, Model, Stable, fixed}
use Rattle.game.proofs.Each.{all_parts}
use Rattle.game.proofs.Rows.{in_width, same_rows, union_cases, union_left, union_right, length-union, row, length-row, in_row, row_passes, both, in_both, both_parts}
use Rattle.game.proofs.Heads.{head_of, head_stands, stands_left, stands_right}
use Rattle.game.proofs.Reducts.{Meets, Lets, met_parts, reduct_model}
use Rattle.game.proofs.Fixing.{fixed_met, member_stands}

-- m, a set of atoms of base, can be fixed for the rules: their atoms are below n, and no head stands in base
pub record Fixable (n : ℕ) (base rules : List Rule) (m : Row) : Type 0 where
  pub width : length m ≡ n
  pub known : (a : ℕ) → In a m → stands a base ≡ true
  pub below : (a : ℕ) → stands a rules ≡ true → a < n
  pub apart : (a : ℕ) → is_head rules a ≡ true → stands a base ≡ true → ⊥

-- s has m and no other atom of base, and no rule of the reduct for x fails in s
record Fits (base rules : List Rule) (m x s : Row) : Type 0 where
  obeys : Obeys rules x s
  lets : Lets rules x s
  around : Within m s
  only : (a : ℕ) → stands a base ≡ true → In a s → In a m

module _ {n : ℕ} {base rules : List Rule} {m : Row} (h : Fixable n base rules m) where
  model_fits : (x s : Row) → length s ≡ n → Model (reduct x (rules ++ fixed n base m)) s ↔ Fits base rules m x s
  model_fits x s same =
      let met = Iff.trans (reduct_model x s (rules ++ fixed n base m)) (all_parts (Meets x s) rules (fixed n base m)) in
      let parts = Iff.and (met_parts x s rules) (fixed_met base m n x s h.width same) in
      Iff.trans met (Iff.trans parts (λ f. record { obeys = f.0.0; lets = f.0.1; around = f.1.0; only = f.1.1 }, λ f. ((f.obeys, f.lets), (f.around, f.only))))

  module _ (x : Row) (stable : Stable n (rules ++ fixed n base m) x) where
    fits : Fits base rules m x x
    fits = (model_fits x x stable.width).0 stable.model

    -- what x and t share is a model, so all of x lies within t
    least : (t : Row) → Within m t → Obeys rules x t → Within x t
    least t around obeys a k = (both_parts x t a (stable.minimal y width (λ b j. (both_parts x t b j).0) ((model_fits x y width).1 shared) a k)).1
      where
        y : Row
        y = both x t

        width : length y ≡ n
        width = length-row (length x) _ ∙ stable.width

        in_x : (r : Rule) → PlainIn y r → PlainIn x r
        in_x r = All-weaker _ _ (λ b j. (both_parts x t b j).0) r.plain

        in_t : (r : Rule) → PlainIn y r → PlainIn t r
        in_t r = All-weaker _ _ (λ b j. (both_parts x t b j).1) r.plain

        shared : Fits base rules m x y
        shared = record {
          obeys = λ r b k e kept p. in_both x t b (fits.obeys r b k e kept (in_x r p)) (obeys r b k e kept (in_t r p));
          lets = λ r k e kept p. fits.lets r k e kept (in_x r p);
          around = λ b j. in_both x t b (fits.around b j) (around b j);
          only = λ b e j. fits.only b e (both_parts x t b j).0;
        }

    -- so a member of x is fixed or a head, since what is fixed and the heads obey the rules
    fixed_or_head : (a : ℕ) → In a x → (In a m) ⊎ (is_head rules a ≡ true)
    fixed_or_head a k = or_cases (get_or m a false) (is_head rules a) (row_passes n test a (least (row n test) around obeys a k))
      where
        test : ℕ → Bool
        test b = get_or m b false || is_head rules b

        around : Within m (row n test)
        around b j = in_row n test b (in_width m h.width b j) (or_left (get_or m b false) (is_head rules b) j)

        obeys : Obeys rules x (row n test)
        obeys r b k e kept p = let head = head_of rules r b k e in in_row n test b (h.below b (head_stands rules b head)) (or_right (get_or m b false) (is_head rules b) head)

    -- the heads among its members
    abbrev own : Row
    own = row n (λ a. get_or x a false && is_head rules a)

    own_parts : (a : ℕ) → In a own → In a x × (is_head rules a ≡ true)
    own_parts a k = and_parts (get_or x a false) (is_head rules a) (row_passes n _ a k)

    own_width : length own ≡ length m
    own_width = length-row n _ ∙ sym h.width

    own_union : x ≡ union own m
    own_union = same_rows x (union own m) (stable.width ∙ sym h.width ∙ sym (length-union own m own_width)) to back
      where
        to : Within x (union own m)
        to a k = elim (fixed_or_head a k) [ inl j ↦ union_right own m a j | inr e ↦ union_left own m a (in_row n _ a (in_width x stable.width a k) (and_from (get_or x a false) (is_head rules a) k e)) ]

        back : Within (union own m) x
        back a k = elim (union_cases own m a k) [ inl j ↦ (own_parts a j).0 | inr j ↦ fits.around a j ]

    own_answer : AnswerSet rules m own
    own_answer =
        record {
          width = own_width;
          heads = λ a k. (own_parts a k).1;
          smallest = subst (λ y. Smallest rules m y y) own_union (record { around = fits.around; obeys = fits.obeys; least = λ t _. least t });
          allowed = subst (Allowed rules) own_union fits.lets;
        }

  module _ (i : Row) (answer : AnswerSet rules m i) where
    answer_fits : Fits base rules m (union i m) (union i m)
    answer_fits = record { obeys = answer.smallest.obeys; lets = answer.allowed; around = answer.smallest.around; only = only }
      where
        only : (a : ℕ) → stands a base ≡ true → In a (union i m) → In a m
        only a e k = elim (union_cases i m a k) [ inl j ↦ absurd (h.apart a (answer.heads a j) e) | inr j ↦ j ]

    answer_stable : Stable n (rules ++ fixed n base m) (union i m)
    answer_stable =
        record {
          width = width;
          inside = λ a k. elim (union_cases i m a k) [
            | inl j ↦ stands_left a rules (fixed n base m) (head_stands rules a (answer.heads a j))
            | inr j ↦ stands_right a rules (fixed n base m) (member_stands base m n a (in_width m h.width a j) j)
          ];
          model = (model_fits (union i m) (union i m) width).1 answer_fits;
          minimal = λ y same _ model. let f = (model_fits (union i m) y same).0 model in answer.smallest.least y (same ∙ sym width) f.around f.obeys;
        }
      where
        width : length (union i m) ≡ n
        width = length-union i m answer.width ∙ h.width

  pub stable_is_answer : (x : Row) → Stable n (rules ++ fixed n base m) x ↔ ((i : Row) × AnswerSet rules m i × (x ≡ union i m))
  stable_is_answer x = (λ stable. (own x stable, own_answer x stable, own_union x stable), λ (i, answer, e). subst (Stable n (rules ++ fixed n base m)) (sym e) (answer_stable i answer))
