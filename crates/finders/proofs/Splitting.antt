-- What is open between two bounds, and how a search goes on from the lowest open atom.
use Rattle.std.proofs.Common.{◌≡◌, ℕ, ◌<◌, true, false, ◌⊎◌, List, length, get_or, set, replicate, sym, ap, ◌∙◌, subst, inl, inr, ⊎_elim, arith}
use Rattle.std.proofs.lemmas.List.{get_or-set_same, get_or-set_other}
use Rattle.std.proofs.lemmas.Bool.{cases_Bool, cases_eq, both_ways}
use Rattle.std.proofs.lemmas.Bool.Decides.{same_from_decides}
use Rattle.game.specs.Sets.{Row, In, Within, union}
use Rattle.game.specs.Rules.{Rule, is_head}
use Rattle.game.specs.AnswerSets.{AnswerSet}
use Rattle.game.proofs.Rows.{in_none, in_width}
use Rattle.closure.specs.Rows.{marked, minus}
use Rattle.closure.proofs.Marks.{in_minus, minus_in, in_union, union_left, union_right, length-minus, same_rows, more_marked}
use Rattle.finders.specs.Orders.{Lexical}
use Rattle.finders.specs.Between.{Between, First, Lowest, Narrower}

-- ## The set of one atom

pub record One (a : ℕ) (one : Row) : Type 0 where
  pub has : In a one
  pub only : (j : ℕ) → In j one → j ≡ a

pub one_from : (n a : ℕ) (one : Row) → a < n → one ≡ set (replicate n false) a true → One a one
one_from n a one less e = record {
  has = ap (λ s. get_or s a false) e ∙ get_or-set_same (replicate n false) a true false (omega (arith, lib.ListN.length-replicate n false));
  only = λ j inside. ⊎_elim (λ same. same) (λ differ. absurd (in_none n j (sym (get_or-set_other (replicate n false) a j true false differ) ∙ sym (ap (λ s. get_or s j false) e) ∙ inside))) (cases_eq j a);
}

-- ## The measure of the search

-- a row without a member of a row that contains it has fewer marks
fewer_marked : (s t : Row) (a : ℕ) → length s ≡ length t → Within s t → In a t → (In a s → ⊥) → marked s < marked t
fewer_marked s t a wide within inside out = more_marked s t wide within (λ same. out (subst (In a) (sym same) inside))

open_within : (low high low' high' : Row) → Within low low' → Within high' high → Within (minus high' low') (minus high low)
open_within low high low' high' more fewer a h =
    let (may, out) = in_minus high' low' a h in
    minus_in high low a (fewer a may) (λ must. out (more a must))

pub fewer_open : (low high low' high' : Row) (a : ℕ) → length high' ≡ length high → Within low low' → Within high' high → In a (minus high low) → (In a (minus high' low') → ⊥) → marked (minus high' low') < marked (minus high low)
fewer_open low high low' high' a wide more fewer inside out =
    fewer_marked (minus high' low') (minus high low) a (length-minus high' low' ∙ wide ∙ sym (length-minus high low)) (open_within low high low' high' more fewer) inside out

pub open_below : (n : ℕ) (low high : Row) (a : ℕ) → length high ≡ n → Lowest (minus high low) a → a < n
open_below n low high a wide first = in_width high wide a (in_minus high low a first.inside).0

-- ## The search

module _ (n : ℕ) (rules : List Rule) (given : Row) (wide : length given ≡ n) (apart : (a : ℕ) → In a given → is_head rules a ≡ true → ⊥) where
  -- what is in x with the given atoms and is not given is in x
  own : (x : Row) (j : ℕ) → In j (union x given) → is_head rules j ≡ true → In j x
  own x j h head = ⊎_elim (λ inside. inside) (λ is-given. absurd (apart j is-given head)) (in_union x given j h)

  module _ (low high : Row) where
    -- what may be in an answer set and is not open must be in each
    closed_in : (j : ℕ) → (In j (minus high low) → ⊥) → In j high → In j low
    closed_in j closed may = ⊎_elim (λ must. must) (λ out. absurd (closed (minus_in high low j may (both_ways (get_or low j false) out)))) (cases_Bool (get_or low j false))

    -- a member that is not open is in every answer set above the bound
    settled : (x z : Row) → AnswerSet rules given x → Within (union x given) high → Within low (union z given) → (j : ℕ) → (In j (minus high low) → ⊥) → In j x → In j z
    settled x z answer below above j closed inside = own z j (above j (closed_in j closed (below j (union_left x given j inside)))) (answer.heads j inside)

    -- where nothing is open, one set is left
    pub lone : length low ≡ n → ((a : ℕ) → In a (minus high low) → ⊥) → (z : Row) → Between rules given low high z → z ≡ minus low given
    lone low_wide closed z b =
        same_rows z (minus low given) (b.answer.width ∙ wide ∙ sym low_wide ∙ sym (length-minus low given))
        (λ j inside. minus_in low given j (closed_in j (closed j) (b.below j (union_left z given j inside))) (λ is-given. apart j is-given (b.answer.heads j inside)))
        (λ j h. let (must, out) = in_minus low given j h in ⊎_elim (λ inside. inside) (λ is-given. absurd (out is-given)) (in_union z given j (b.above j must)))

    pub lone_between : Within given low → Within low high → AnswerSet rules given (minus low given) → Between rules given low high (minus low given)
    lone_between around ordered answer = record {
      answer = answer;
      above = λ j must. ⊎_elim (λ is-given. union_right (minus low given) given j is-given) (λ out. union_left (minus low given) given j (minus_in low given j must (both_ways (get_or given j false) out))) (cases_Bool (get_or given j false));
      below = λ j h. ordered j (⊎_elim (λ inside. (in_minus low given j inside).0) (around j) (in_union (minus low given) given j h));
    }

    -- the lowest open atom is absent or present
    module _ (a : ℕ) (one : Row) (is_one : One a one) (first : Lowest (minus high low) a) where
      pub absent : (z : Row) → Between rules given low (minus high one) z → Between rules given low high z
      absent z b = record { answer = b.answer; above = b.above; below = λ j h. (in_minus high one j (b.below j h)).0 }

      pub present : (z : Row) → Between rules given (union low one) high z → Between rules given low high z
      present z b = record { answer = b.answer; above = λ j must. b.above j (union_left low one j must); below = b.below }

      pub absent_or_present : (z : Row) → Between rules given low high z → Between rules given low (minus high one) z ⊎ Between rules given (union low one) high z
      absent_or_present z b = ⊎_elim (λ inside. inr (with_it inside)) (λ out. inl (without_it (both_ways (get_or (union z given) a false) out))) (cases_Bool (get_or (union z given) a false))
        where
          with_it : In a (union z given) → Between rules given (union low one) high z
          with_it inside = record { answer = b.answer; above = λ j h. ⊎_elim (b.above j) (λ is-a. subst (λ i. In i (union z given)) (sym (is_one.only j is-a)) inside) (in_union low one j h); below = b.below }

          without_it : (In a (union z given) → ⊥) → Between rules given low (minus high one) z
          without_it out = record { answer = b.answer; above = b.above; below = λ j h. minus_in high one j (b.below j h) (λ is-a. out (subst (λ i. In i (union z given)) (is_one.only j is-a) h)) }

      -- sets without it come before sets with it
      pub absent_first : Within given low → (x z : Row) → Between rules given low (minus high one) x → Between rules given (union low one) high z → Lexical x z
      absent_first around x z p q = (
        a,
        λ j less. same_from_decides (get_or x j false) (get_or z j false) (λ e. e, λ e. e) (
          settled z x q.answer q.below p.above j (first.none_below j less),
          settled x z p.answer (λ i h. (in_minus high one i (p.below i h)).0) (λ i must. q.above i (union_left low one i must)) j (first.none_below j less),
        ),
        lacks,
        has,
      )
        where
          open_not_given : In a given → ⊥
          open_not_given is-given = (in_minus high low a first.inside).1 (around a is-given)

          lacks : get_or x a false ≡ false
          lacks = ⊎_elim (λ inside. absurd ((in_minus high one a (p.below a (union_left x given a inside))).1 is_one.has)) (λ out. out) (cases_Bool (get_or x a false))

          has : In a z
          has = ⊎_elim (λ inside. inside) (λ is-given. absurd (open_not_given is-given)) (in_union z given a (q.above a (union_right low one a is_one.has)))

-- ## One step of the search: the bounds low and high are narrowed to l and h

pub record Node (n : ℕ) (rules : List Rule) (given low high l h : Row) : Type 0 where
  pub wide : length given ≡ n
  pub apart : (a : ℕ) → In a given → is_head rules a ≡ true → ⊥
  pub around : Within given low
  pub l_wide : length l ≡ n
  pub closer : Narrower rules given low high l h

module _ {n : ℕ} {rules : List Rule} {given low high l h : Row} (o : Node n rules given low high l h) where
  pub still_around : Within given l
  still_around a inside = o.closer.more a (o.around a inside)

  wider : (z : Row) → Between rules given l h z → Between rules given low high z
  wider z b = record { answer = b.answer; above = λ a must. b.above a (o.closer.more a must); below = λ a inside. o.closer.fewer a (b.below a inside) }

  none_wider : ((z : Row) → Between rules given l h z → ⊥) → (z : Row) → Between rules given low high z → ⊥
  none_wider none z b = none z (o.closer.same z b)

  first_wider : (x : Row) → First (Between rules given l h) x → First (Between rules given low high) x
  first_wider x f = record { is = wider x f.is; least = λ z b. f.least z (o.closer.same z b) }

  module _ (closed : (a : ℕ) → In a (minus h l) → ⊥) where
    pub lone_refused : (AnswerSet rules given (minus l given) → ⊥) → (z : Row) → Between rules given low high z → ⊥
    lone_refused refused = none_wider (λ z b. refused (subst (AnswerSet rules given) (lone n rules given o.wide o.apart l h o.l_wide closed z b) b.answer))

    pub lone_first : (x : Row) → x ≡ minus l given → AnswerSet rules given x → First (Between rules given low high) x
    lone_first x e answer = first_wider x record {
      is = subst (Between rules given l h) (sym e) (lone_between n rules given o.wide o.apart l h still_around o.closer.ordered (subst (AnswerSet rules given) e answer));
      least = λ z b. inl (lone n rules given o.wide o.apart l h o.l_wide closed z b ∙ sym e);
    }

  -- a is the lowest open atom, p the upper bound without it, q the lower bound with it
  module _ (a : ℕ) (one p q : Row) (is_one : One a one) (first : Lowest (minus h l) a) (p-is : p ≡ minus h one) (q-is : q ≡ union l one) where
    out_of : (z : Row) → Between rules given l p z → Between rules given l (minus h one) z
    out_of z = subst (λ s. Between rules given l s z) p-is

    in_to : (z : Row) → Between rules given q h z → Between rules given (union l one) h z
    in_to z = subst (λ s. Between rules given s h z) q-is

    by_cases : (z : Row) → Between rules given l h z → Between rules given l p z ⊎ Between rules given q h z
    by_cases z b =
        ⊎_elim (λ out. inl (subst (λ s. Between rules given l s z) (sym p-is) out)) (λ in'. inr (subst (λ s. Between rules given s h z) (sym q-is) in'))
        (absent_or_present n rules given o.wide o.apart l h a one is_one first z b)

    pub first_absent : (x : Row) → First (Between rules given l p) x → First (Between rules given low high) x
    first_absent x f = first_wider x record {
      is = absent n rules given o.wide o.apart l h a one is_one first x (out_of x f.is);
      least = λ z b. ⊎_elim (f.least z) (λ in'. inr (absent_first n rules given o.wide o.apart l h a one is_one first still_around x z (out_of x f.is) (in_to z in'))) (by_cases z b);
    }

    module _ (none : (z : Row) → Between rules given l p z → ⊥) where
      pub first_present : (x : Row) → First (Between rules given q h) x → First (Between rules given low high) x
      first_present x f = first_wider x record {
        is = present n rules given o.wide o.apart l h a one is_one first x (in_to x f.is);
        least = λ z b. ⊎_elim (λ out. absurd (none z out)) (f.least z) (by_cases z b);
      }

      pub none_either : ((z : Row) → Between rules given q h z → ⊥) → (z : Row) → Between rules given low high z → ⊥
      none_either none' = none_wider (λ z b. ⊎_elim (none z) (none' z) (by_cases z b))

    -- fewer atoms are open on either branch
    pub absent_fewer : length h ≡ n → length high ≡ n → marked (minus p l) < marked (minus high low)
    absent_fewer h_wide high-wide =
        fewer_open low high l p a (ap length p-is ∙ length-minus h one ∙ h_wide ∙ sym high-wide) o.closer.more (λ j inside. o.closer.fewer j (in_minus h one j (subst (In j) p-is inside)).0)
        (open_within low high l h o.closer.more o.closer.fewer a first.inside)
        (λ inside. (in_minus h one a (subst (In a) p-is (in_minus p l a inside).0)).1 is_one.has)

    pub present_fewer : length h ≡ n → length high ≡ n → marked (minus h q) < marked (minus high low)
    present_fewer h_wide high-wide =
        fewer_open low high q h a (h_wide ∙ sym high-wide) (λ j must. subst (In j) (sym q-is) (union_left l one j (o.closer.more j must))) o.closer.fewer
        (open_within low high l h o.closer.more o.closer.fewer a first.inside)
        (λ inside. (in_minus h q a inside).1 (subst (In a) (sym q-is) (union_right l one a is_one.has)))
