-- Where levels fit, there is one set at most that is the smallest for its own reduct, and so one answer set at most.
use Rattle.std.proofs.Common.{◌≡◌, ℕ, zero, suc, ◌<◌, Bool, true, false, not, ◌||◌, ltb, List, length, get_or, Decides, sym, refl, ◌∙◌, inl, inr, arith}
use mathlib.Core.Bool.{false≢true}
use Rattle.std.proofs.lemmas.Bool.Decides.{Decides-ltb}
use Rattle.game.specs.Sets.{Row, In, Within, union}
use Rattle.game.specs.Rules.{Rule, headed, is_head, Obeys}
use Rattle.game.specs.AnswerSets.{Smallest, AnswerSet}
use Rattle.game.specs.Strata.{Leveled, OneAnswerAtMost}
use Rattle.game.proofs.StrataRows.{decides_itself, part, length-part, in_part, in_union, length-union, same_rows}
use Rattle.game.proofs.Deriving.{plain_grows}
use Rattle.game.proofs.StrataHeaded.{headed_smallest, is_head_headed}
use Rattle.game.proofs.StrataLevels.{plain_upto, kept_below}

decides_implies : {P Q : Type 0} (b c : Bool) → Decides b P → Decides c Q → Decides (not b || c) (P → Q)
decides_implies true c p q = (λ e _. q.0 e, λ f. q.1 (f (p.0 refl)))
decides_implies false c p q = (λ e i. absurd (false≢true (p.1 i)), λ f. refl)

-- below level k the members of x are members of y
abbrev Follows : (ℕ → ℕ) → ℕ → Row → Row → Type 0
Follows level k x y = (a : ℕ) → level a < k → In a x → In a y

-- the members of y that are in x if they stand below level k
abbrev shared : (ℕ → ℕ) → ℕ → Row → Row → Row
shared level k x y = part (λ a. not (ltb (level a) k) || get_or x a false) y

in_shared : (level : ℕ → ℕ) (k : ℕ) (x y : Row) (a : ℕ) → Decides (get_or (shared level k x y) a false) (In a y × (level a < k → In a x))
in_shared level k x y = in_part _ (λ a. level a < k → In a x) (λ a. decides_implies _ _ (Decides-ltb (level a) k) (decides_itself (get_or x a false))) y

module _ {rules : List Rule} {level : ℕ → ℕ} (leveled : Leveled rules level) (given x y : Row) (own_x : Smallest rules given x x) (own-y : Smallest rules given y y) where
  shared_within : (k : ℕ) → Within (shared level k x y) y
  shared_within k a i = ((in_shared level k x y a).0 i).0

  -- the shared atoms obey the reduct for y: up to level k a rule's plain atoms are in x too, and its negated atoms, which stand lower, are not
  shared_obeys : (k : ℕ) → Follows level k x y → Obeys rules y (shared level (suc k) x y)
  shared_obeys k follows r a has head kept plain =
      let t : Row = shared level (suc k) x y in
      let in_x : level a < suc k → In a x = λ low. own_x.obeys r a has head (kept_below leveled r a has head y x (λ b l. follows b (omega arith)) kept) (plain_upto leveled r a has head t x (λ b l i. ((in_shared level (suc k) x y b).0 i).1 (omega arith)) plain) in
      (in_shared level (suc k) x y a).1 (own-y.obeys r a has head kept (plain_grows t y r (shared_within (suc k)) plain), in_x)

  -- y, the smallest set for its reduct, has no more than the shared atoms
  follows_next : (k : ℕ) → Follows level k x y → Follows level (suc k) y x
  follows_next k follows a low i =
      let t : Row = shared level (suc k) x y in
      let all = own-y.least t (length-part _ y) (λ b g. (in_shared level (suc k) x y b).1 (own-y.around b g, λ _. own_x.around b g)) (shared_obeys k follows) in
      ((in_shared level (suc k) x y a).0 (all a i)).1 low

module _ {rules : List Rule} {level : ℕ → ℕ} (leveled : Leveled rules level) (given x y : Row) (own_x : Smallest rules given x x) (own-y : Smallest rules given y y) where
  follow : (k : ℕ) → Follows level k x y × Follows level k y x
  follow zero = (λ a low. absurd (omega arith), λ a low. absurd (omega arith))
  follow (suc k) = (follows_next leveled given y x own-y own_x k (follow k).1, follows_next leveled given x y own_x own-y k (follow k).0)

  pub one_smallest : length x ≡ length y → x ≡ y
  one_smallest e = same_rows x y e (λ a. (follow (suc (level a))).0 a (omega arith)) (λ a. (follow (suc (level a))).1 a (omega arith))

-- an answer set with what is given is a smallest set for its own reduct
pub answer_smallest : (rules : List Rule) (given i : Row) → AnswerSet (headed rules) given i → Smallest rules given (union i given) (union i given)
answer_smallest rules given i c = headed_smallest rules given (union i given) (union i given) c.smallest

module _ (rules : List Rule) (given x y : Row) (apart : (a : ℕ) → In a given → is_head rules a ≡ true → ⊥) (ans : AnswerSet (headed rules) given x) (same : union x given ≡ union y given) where
  answer_within : Within x y
  answer_within a i = elim ((in_union y given a).0 (rw same at ((in_union x given a).1 (inl i)))) [
    | inl j ↦ j
    | inr g ↦ absurd (apart a g (sym (is_head_headed rules a) ∙ ans.heads a i))
  ]

pub one_answer_at_most : OneAnswerAtMost
one_answer_at_most rules level given x y leveled apart ans-x ans-y =
    let width_x : length (union x given) ≡ length given = length-union x given ans-x.width in
    let width_y : length (union y given) ≡ length given = length-union y given ans-y.width in
    let same : union x given ≡ union y given = one_smallest leveled given (union x given) (union y given) (answer_smallest rules given x ans-x) (answer_smallest rules given y ans-y) (width_x ∙ sym width_y) in
    same_rows x y (ans-x.width ∙ sym ans-y.width) (answer_within rules given x y apart ans-x same) (answer_within rules given y x apart ans-y (sym same))
