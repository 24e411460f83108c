-- The orders of the supplied finders, computed: of the sets of heads, each test that decides answer sets keeps the same.
use Rattle.std.proofs.Common.{◌≡◌, ℕ, Bool, true, cond, List, [], ◌∷◌, length, Decides, filter, refl, ap₂}
use Rattle.std.specs.List.{ContainsAt as Has}
use Rattle.std.proofs.lemmas.Bool.{false≢true}
use Rattle.std.proofs.lemmas.Bool.Decides.{same_from_decides}
use Rattle.game.specs.Sets.{Row}
use Rattle.game.specs.Rules.{Rule, is_head}
use Rattle.game.specs.AnswerSets.{AnswerSet}
use Rattle.game.specs.Heads.{Lists, Among, sets_of_heads, counted_among}
use Rattle.game.proofs.Decided.{dec_answer}
use Rattle.game.proofs.StrataLists.{has_first, has_later}
use Rattle.game.proofs.HeadSets.{sets_of_heads_lists, kept_answers}
use Rattle.game.proofs.CountedSets.{counted_among_lists}
use Rattle.programs.specs.Limits.{all_fit}
use Rattle.finders.specs.Orders.{told, answers, branching_order, counting_order}
use Rattle.examples.specs.Examples.{Finder, by_counting, by_branching, meaning_of}
use Rattle.examples.proofs.Answering.{is_answer, is_answer_decides}

-- the sets of heads in the finder's order
abbrev pub sets_in : Finder → List Rule → ℕ → List Row
sets_in by_counting rules n = counted_among n (is_head rules)
sets_in by_branching rules n = sets_of_heads rules n

abbrev pub order_of : Finder → List Rule → Row → List Row
order_of f rules given = filter (is_answer rules given) (sets_in f rules (length given))

sets_listed : (f : Finder) (rules : List Rule) (n : ℕ) → Lists (sets_in f rules n) (Among n (is_head rules))
sets_listed by_counting rules n = counted_among_lists n (is_head rules)
sets_listed by_branching rules n = sets_of_heads_lists rules n

told_decides : {P : Type 0} (d : Dec P) → Decides (told d) P
told_decides (yes p) = (λ _. p, λ _. refl)
told_decides (no f) = (λ e. absurd (false≢true e), λ p. absurd (f p))

kept_same : (p q : Row → Bool) (xs : List Row) → ((x : Row) → Has xs x → p x ≡ q x) → filter p xs ≡ filter q xs
kept_same p q [] same = refl
kept_same p q (x ∷ xs) same = ap₂ (λ b ys. cond b (x ∷ ys) ys) (same x (has_first x xs)) (kept_same p q xs (λ y h. same y (has_later x y xs h)))

module _ (f : Finder) (rules : List Rule) (given : Row) (fits : all_fit (length given) rules ≡ true) where
  pub order_lists : Lists (order_of f rules given) (AnswerSet rules given)
  order_lists = kept_answers rules given (is_answer rules given) (is_answer_decides rules given fits) (sets_listed f rules (length given))

  same_test : (i : Row) → Has (sets_in f rules (length given)) i → answers rules given i ≡ is_answer rules given i
  same_test i has = same_from_decides _ _ (told_decides (dec_answer rules given i)) (is_answer_decides rules given fits i ((sets_listed f rules (length given)).only i has))

pub order_is : (f : Finder) (rules : List Rule) (given : Row) → all_fit (length given) rules ≡ true → (meaning_of f).order rules given ≡ order_of f rules given
unfolding branching_order counting_order
order_is by_counting rules given fits = kept_same (answers rules given) (is_answer rules given) _ (same_test by_counting rules given fits)
order_is by_branching rules given fits = kept_same (answers rules given) (is_answer rules given) _ (same_test by_branching rules given fits)
