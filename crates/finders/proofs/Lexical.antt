-- The lexical order of rows, and that the sets of heads ascend in it.
use Rattle.std.proofs.Common.{◌≡◌, ℕ, zero, suc, ◌<◌, Bool, true, false, cond, List, [], ◌∷◌, ◌++◌, map, length, get_or, sym, refl, ◌∙◌, subst, ⊎_elim, arith}
use Rattle.std.specs.List.{ContainsAt as Has}
use Rattle.std.proofs.lemmas.Bool.{cases_lt, both_ways}
use Rattle.game.specs.Sets.{Row, In}
use Rattle.game.specs.Rules.{Rule, is_head}
use Rattle.game.specs.Heads.{sets_among, sets_of_heads}
use Rattle.game.proofs.Listing.{has_map_from}
use Rattle.finders.specs.Orders.{Lexical, answers, branching_order}
use Rattle.finders.proofs.Sorted.{Sorted, sorted_append, sorted_map, sorted_kept}

-- of two places where one row has what the other lacks, neither is the lowest
pub never_both : (s t : Row) → Lexical s t → Lexical t s → ⊥
never_both s t (k, below, out, in') (j, below', out', in'') =
    ⊎_elim (λ less. both_ways (get_or s k false) out (sym (below' k less) ∙ in'))
    (λ ge. ⊎_elim (λ less. both_ways (get_or t j false) out' (sym (below j less) ∙ in'')) (λ le. let same : k ≡ j = omega arith in both_ways (get_or s k false) out (subst (λ i. In i s) (sym same) in'')) (cases_lt j k))
    (cases_lt k j)

same_first : (b : Bool) (s t : Row) → Lexical s t → Lexical (b ∷ s) (b ∷ t)
same_first b s t (k, below, out, in') = (suc k, agree, out, in')
  where
    agree : (j : ℕ) → j < suc k → get_or (b ∷ s) j false ≡ get_or (b ∷ t) j false
    agree zero less = refl
    agree (suc j) less = below j (omega arith)

other_first : (s t : Row) → Lexical (false ∷ s) (true ∷ t)
other_first s t = (0, λ j less. absurd (omega arith), refl, refl)

sets_sorted : (n : ℕ) (f : ℕ → Bool) → Sorted Lexical (sets_among n f)
sets_sorted zero f = (λ y (k, l, at). absurd (omega arith), tt)
sets_sorted (suc n) f = go (sets_sorted n (λ a. f (suc a))) (f 0)
  where
    rest : List Row
    rest = sets_among n (λ a. f (suc a))

    with_first : Sorted Lexical rest → (b : Bool) → Sorted Lexical (map (λ s. b ∷ s) rest)
    with_first sorted b = sorted_map Lexical (λ s. b ∷ s) (same_first b) rest sorted

    across : (x y : Row) → Has (map (λ s. false ∷ s) rest) x → Has (map (λ s. true ∷ s) rest) y → Lexical x y
    across x y h k =
        let (s, _, e) = has_map_from (λ s. false ∷ s) rest x h in
        let (t, _, e') = has_map_from (λ s. true ∷ s) rest y k in
        subst (λ z. Lexical z y) e (subst (Lexical (false ∷ s)) e' (other_first s t))

    go : Sorted Lexical rest → (b : Bool) → Sorted Lexical (map (λ s. false ∷ s) rest ++ cond b (map (λ s. true ∷ s) rest) [])
    go sorted true = sorted_append Lexical _ _ (with_first sorted false) (with_first sorted true) across
    go sorted false = sorted_append Lexical _ [] (with_first sorted false) tt (λ x y h (k, l, at). absurd (omega arith))

pub branching_sorted : (rules : List Rule) (given : Row) → Sorted Lexical (branching_order rules given)
unfolding branching_order
branching_sorted rules given = sorted_kept Lexical (answers rules given) (sets_of_heads rules (length given)) (sets_sorted (length given) (is_head rules))
