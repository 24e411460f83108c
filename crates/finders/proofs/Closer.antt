-- What a reduct derives bounds the answer sets between two sets.
use Rattle.std.proofs.Common.{◌≡◌, ℕ, List, length, sym, ◌∙◌, subst, ⊎_elim}
use Rattle.std.proofs.ByRecursion.{All-weaker}
use Rattle.game.specs.Sets.{Row, In, Within, union}
use Rattle.game.specs.Rules.{Rule, Kept, Obeys}
use Rattle.game.specs.AnswerSets.{Smallest}
use Rattle.game.proofs.Deriving.{plain_grows}
use Rattle.closure.specs.Rows.{minus}
use Rattle.closure.proofs.Marks.{in_minus, minus_in, in_union, union_left, length-union}
use Rattle.solving.specs.Bounds.{Broken}
use Rattle.finders.specs.Between.{Between, Narrower}

-- what the reduct for a larger set keeps, the reduct for a smaller one keeps
kept_smaller : (x y : Row) (r : Rule) → Within x y → Kept y r → Kept x r
kept_smaller x y r within = All-weaker _ _ (λ a out in'. out (within a in')) r.negated

obeys_larger : (rules : List Rule) (x y s : Row) → Within x y → Obeys rules x s → Obeys rules y s
obeys_larger rules x y s within obeys r a has head kept plain = obeys r a has head (kept_smaller x y r within kept) plain

-- a member of both rows, as the code finds it
pub in_both : (s t : Row) (a : ℕ) → In a s → In a t → In a (minus s (minus s t))
in_both s t a h k = minus_in s (minus s t) a h (λ m. (in_minus s t a m).1 k)

both_left : (s t : Row) → Within (minus s (minus s t)) s
both_left s t a h = (in_minus s (minus s t) a h).0

-- i lies between low and high
module _ {rules : List Rule} {given low high i : Row} (b : Between rules given low high i) where
  -- what is derived from the smaller set's reduct is all that can be derived
  derivable_above : (s : Row) → length s ≡ length (union i given) → Smallest rules given low s → Within (union i given) s
  derivable_above s wide smallest = b.answer.smallest.least s wide smallest.around (obeys_larger rules low (union i given) s b.above smallest.obeys)

  -- what is derived from a larger set's reduct must be derived
  derived_below : (x s : Row) → length s ≡ length (union i given) → Within (union i given) x → Smallest rules given x s → Within s (union i given)
  derived_below x s wide below smallest = smallest.least (union i given) (sym wide) b.answer.smallest.around (obeys_larger rules (union i given) x (union i given) below b.answer.smallest.obeys)

  -- a constraint that is broken for sure
  not_broken : (x s : Row) → Within (union i given) x → Within s (union i given) → Broken rules x s → ⊥
  not_broken x s below above (r, has, (head, (kept, plain))) = b.answer.allowed r has head (kept_smaller (union i given) x r below kept) (plain_grows s (union i given) r above plain)

-- what may be in an answer set, as the code lessens it to h: u is derived from the reduct for low
pub record Lessening (n : ℕ) (rules : List Rule) (given low high u h : Row) : Type 0 where
  pub given_wide : length given ≡ n
  pub u_wide : length u ≡ n
  pub derivable : Smallest rules given low u
  pub h_is : h ≡ minus high (minus high u)

module _ {n : ℕ} {rules : List Rule} {given low high u h : Row} (w : Lessening n rules given low high u h) where
  united : (i : Row) → Between rules given low high i → length (union i given) ≡ n
  united i b = length-union n i given (b.answer.width ∙ w.given_wide) w.given_wide

  still_below : (i : Row) → Between rules given low high i → Within (union i given) h
  still_below i b a inside = subst (In a) (sym w.h_is) (in_both high u a (b.below a inside) (derivable_above b u (w.u_wide ∙ sym (united i b)) w.derivable a inside))

  -- what is in every answer set between the bounds lies within h, or there is none
  outside : (l : Row) → ((i : Row) → Between rules given low high i → Within l (union i given)) → (Within l h → ⊥) → (i : Row) → Between rules given low high i → ⊥
  outside l above differ i b = differ (λ a must. still_below i b a (above i b a must))

  -- what is settled and cannot be derived
  pub underived_none : (Within low h → ⊥) → (i : Row) → Between rules given low high i → ⊥
  underived_none = outside low (λ i b. b.above)

-- then what must be, to l: v is derived from the reduct for h
pub record Narrowing (n : ℕ) (rules : List Rule) (given low high u v l h : Row) : Type 0 where
  pub less : Lessening n rules given low high u h
  pub v_wide : length v ≡ n
  pub derived : Smallest rules given h v
  pub l_is : l ≡ union low v

module _ {n : ℕ} {rules : List Rule} {given low high u v l h : Row} (w : Narrowing n rules given low high u v l h) where
  still_above : (i : Row) → Between rules given low high i → Within l (union i given)
  still_above i b a inside = ⊎_elim (b.above a) (derived_below b h v (w.v_wide ∙ sym (united w.less i b)) (still_below w.less i b) w.derived a) (in_union low v a (subst (In a) w.l_is inside))

  -- what must be derived and cannot be
  pub crossed_none : (Within l h → ⊥) → (i : Row) → Between rules given low high i → ⊥
  crossed_none = outside w.less l still_above

  pub broken_none : Broken rules h l → (i : Row) → Between rules given low high i → ⊥
  broken_none broken i b = not_broken b h l (still_below w.less i b) (still_above i b) broken

  pub narrower : Within l h → Narrower rules given low high l h
  narrower inside = record {
    ordered = inside;
    more = λ a inside. subst (In a) (sym w.l_is) (union_left low v a inside);
    fewer = λ a inside. both_left high u a (subst (In a) w.less.h_is inside);
    same = λ i b. record { answer = b.answer; above = still_above i b; below = still_below w.less i b };
  }
