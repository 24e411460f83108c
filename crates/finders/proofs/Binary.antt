-- Rows as binary numbers: their order, and that the sets of heads ascend in it.
use Rattle.std.proofs.Common.{◌≡◌, ℕ, zero, suc, ◌+◌, ◌*◌, ◌^◌, ◌<◌, ◌≤◌, Bool, true, false, cond, List, [], ◌∷◌, length, get_or, sym, refl, ap, ◌∙◌, subst, inl, inr, ⊎_elim, pow-suc, arith}
use Rattle.std.specs.List.{ContainsAt as Has}
use Rattle.std.proofs.lemmas.List.{ext_get_or}
use Rattle.std.proofs.lemmas.Bool.{cases_Bool, cases_lt, cases_order, cond-true, cond-false, both_ways}
use Rattle.game.specs.Sets.{Row, In}
use Rattle.game.specs.Rules.{Rule, is_head}
use Rattle.game.specs.Heads.{both_firsts, counted_among}
use Rattle.game.proofs.CountedSets.{has_both_from}
use Rattle.game.proofs.StrataLists.{has_cases}
use Rattle.finders.specs.Orders.{Lower, answers, counting_order}
use Rattle.finders.specs.Upward.{UpFrom}
use Rattle.finders.proofs.Sorted.{Sorted, sorted_kept}

-- of two places where one row has what the other lacks, neither is the highest
pub never_both : (s t : Row) → Lower s t → Lower t s → ⊥
never_both s t (k, above, out, in') (j, above', out', in'') =
    ⊎_elim (λ same. both_ways (get_or s k false) out (subst (λ i. In i s) (sym same) in''))
    (⊎_elim (λ less. both_ways (get_or t j false) out' (sym (above j less) ∙ in'')) (λ more. both_ways (get_or s k false) out (sym (above' k more) ∙ in')))
    (cases_order k j)

pub lower_trans : (s t u : Row) → Lower s t → Lower t u → Lower s u
lower_trans s t u (k, above, out, in') (j, above', out', in'') =
    ⊎_elim (λ same. absurd (both_ways (get_or t j false) out' (subst (λ i. In i t) same in')))
    (
    ⊎_elim
    (λ less. (j, λ i more. (let past : k < i = omega arith in above i past) ∙ above' i more, above j less ∙ out', in''))
    (λ less. (k, λ i more. above i more ∙ (let past : j < i = omega arith in above' i past), out, sym (above' k less) ∙ in'))
    )
    (cases_order k j)

same_first : (b c : Bool) (s t : Row) → Lower s t → Lower (b ∷ s) (c ∷ t)
same_first b c s t (k, above, out, in') = (suc k, agree, out, in')
  where
    agree : (j : ℕ) → suc k < j → get_or (b ∷ s) j false ≡ get_or (c ∷ t) j false
    agree zero less = absurd (omega arith)
    agree (suc j) less = above j (omega arith)

other_first : (s : Row) → Lower (false ∷ s) (true ∷ s)
other_first s = (0, agree, refl, refl)
  where
    agree : (j : ℕ) → 0 < j → get_or (false ∷ s) j false ≡ get_or (true ∷ s) j false
    agree zero less = absurd (omega arith)
    agree (suc j) less = refl

-- what comes before a row comes before it with either first mark
before_both : (b c : Bool) (s : Row) (xs : List Row) → ((t : Row) → Has xs t → Lower s t) → (u : Row) → Has (both_firsts b xs) u → Lower (c ∷ s) u
before_both b c s xs before u h =
    ⊎_elim
    (λ (t, has, e). subst (Lower (c ∷ s)) e (same_first c false s t (before t has)))
    (λ (_, (t, has, e)). subst (Lower (c ∷ s)) e (same_first c true s t (before t has)))
    (has_both_from b xs u h)

sorted_both : (b : Bool) (xs : List Row) → Sorted Lower xs → Sorted Lower (both_firsts b xs)
sorted_both b [] o = tt
sorted_both true (s ∷ xs) o =
    let rest : List Row = both_firsts true xs in (
      λ u h. ⊎_elim (λ e. subst (Lower (false ∷ s)) e (other_first s)) (before_both true false s xs o.0 u) (has_cases (true ∷ s) u rest h),
      (before_both true true s xs o.0, sorted_both true xs o.1),
    )
sorted_both false (s ∷ xs) o = (before_both false false s xs o.0, sorted_both false xs o.1)

counted_sorted : (n : ℕ) (f : ℕ → Bool) → Sorted Lower (counted_among n f)
counted_sorted zero f = (λ y (k, l, at). absurd (omega arith), tt)
counted_sorted (suc n) f = sorted_both (f 0) (counted_among n (λ a. f (suc a))) (counted_sorted n (λ a. f (suc a)))

pub counting_sorted : (rules : List Rule) (given : Row) → Sorted Lower (counting_order rules given)
unfolding counting_order
counting_sorted rules given = sorted_kept Lower (answers rules given) (counted_among (length given) (is_head rules)) (counted_sorted (length given) (is_head rules))

-- a row that is clear below p, and as the other from there on, is the other or comes before it
pub clear_below : (p : ℕ) (s t : Row) → length s ≡ length t → ((k : ℕ) → k < p → get_or s k false ≡ false) → ((k : ℕ) → p ≤ k → get_or s k false ≡ get_or t k false) → UpFrom s t
clear_below zero s t wide clear same = inl (ext_get_or false s t wide (λ k _. same k (omega arith)))
clear_below (suc p) s t wide clear same =
    ⊎_elim
    (λ marked. inr (p, λ k more. same k (omega arith), clear p (omega arith), marked))
    (λ none. clear_below p s t wide (λ k less. clear k (omega arith)) (λ k from. ⊎_elim (λ less. let here : k ≡ p = omega arith in subst (λ i. get_or s i false ≡ get_or t i false) (sym here) (clear p (omega arith) ∙ sym none)) (λ more. same k more) (cases_lt k (suc p))))
    (cases_Bool (get_or t p false))

-- ## The number that a row stands for

abbrev pub value : Row → ℕ
value [] = 0
value (x ∷ s) = cond x 1 0 + 2 * value s

digit : (x : Bool) → cond x 1 0 ≤ 1
digit true = omega arith
digit false = omega arith

pub value_below : (s : Row) → value s < 2 ^ length s
value_below [] = omega arith
value_below (x ∷ s) = let rest = value_below s in let one = digit x in omega (arith, pow-suc 2 (length s))

pub value_lower : (s t : Row) → length s ≡ length t → Lower s t → value s < value t
value_lower [] [] wide (k, above, out, in') = absurd (both_ways false refl in')
value_lower [] (y ∷ t) wide less = absurd (omega arith)
value_lower (x ∷ s) [] wide less = absurd (omega arith)
value_lower (x ∷ s) (y ∷ t) wide (zero, above, out, in') =
    let same : s ≡ t = ext_get_or false s t (omega arith) (λ k _. above (suc k) (omega arith)) in
    omega (arith, cond-false {A = ℕ} x 1 0 out, cond-true {A = ℕ} y 1 0 in', ap value same)
value_lower (x ∷ s) (y ∷ t) wide (suc k, above, out, in') =
    let rest = value_lower s t (omega arith) (k, λ j more. above (suc j) (omega arith), out, in') in
    let one = digit x in
    omega arith
