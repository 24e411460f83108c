-- The sets of heads as binary numbers that ascend: each of them stands there exactly once.
use Rattle.std.proofs.Common.{◌≡◌, ℕ, zero, suc, Bool, true, false, ◌⊎◌, List, [], ◌∷◌, refl, ◌∙◌, subst, inl, inr, ⊎_elim, arith}
use Rattle.std.specs.List.{ContainsAt as Has}
use Rattle.std.proofs.lemmas.Bool.{false≢true, both_ways}
use Rattle.game.specs.Sets.{Row}
use Rattle.game.specs.Heads.{Lists, Among, both_firsts, counted_among}
use Rattle.game.proofs.StrataLists.{has_first, has_later, has_cases}
use Rattle.game.proofs.Listing.{Differ, differ_once, lists_differ}
use Rattle.game.proofs.HeadSets.{After, Later, after, by_first, sets_among_lists}

has_out : (b : Bool) (xs : List Row) (t : Row) → Has xs t → Has (both_firsts b xs) (false ∷ t)
has_out b [] t (k, l, at) = absurd (omega arith)
has_out true (s ∷ xs) t h =
    let rest : List Row = both_firsts true xs in
    ⊎_elim (λ e. subst (λ u. Has ((false ∷ s) ∷ (true ∷ s) ∷ rest) (false ∷ u)) e (has_first (false ∷ s) ((true ∷ s) ∷ rest)))
    (λ more. has_later (false ∷ s) (false ∷ t) ((true ∷ s) ∷ rest) (has_later (true ∷ s) (false ∷ t) rest (has_out true xs t more)))
    (has_cases s t xs h)
has_out false (s ∷ xs) t h =
    let rest : List Row = both_firsts false xs in
    ⊎_elim (λ e. subst (λ u. Has ((false ∷ s) ∷ rest) (false ∷ u)) e (has_first (false ∷ s) rest))
    (λ more. has_later (false ∷ s) (false ∷ t) rest (has_out false xs t more))
    (has_cases s t xs h)

has_in : (xs : List Row) (t : Row) → Has xs t → Has (both_firsts true xs) (true ∷ t)
has_in [] t (k, l, at) = absurd (omega arith)
has_in (s ∷ xs) t h =
    let rest : List Row = both_firsts true xs in
    ⊎_elim (λ e. subst (λ u. Has ((false ∷ s) ∷ (true ∷ s) ∷ rest) (true ∷ u)) e (has_later (false ∷ s) (true ∷ s) ((true ∷ s) ∷ rest) (has_first (true ∷ s) rest)))
    (λ more. has_later (false ∷ s) (true ∷ t) ((true ∷ s) ∷ rest) (has_later (true ∷ s) (true ∷ t) rest (has_in xs t more)))
    (has_cases s t xs h)

-- each entry has a row of the list behind its first mark, and that mark is set only where b
abbrev pub OneOf : Bool → List Row → Row → Type 0
OneOf b xs u = After false (Has xs) u ⊎ ((b ≡ true) × After true (Has xs) u)

pub has_both_from : (b : Bool) (xs : List Row) (u : Row) → Has (both_firsts b xs) u → OneOf b xs u
has_both_from b [] u (k, l, at) = absurd (omega arith)
has_both_from true (s ∷ xs) u h =
    let rest : List Row = both_firsts true xs in
    ⊎_elim (λ e. inl (s, has_first s xs, e))
    (λ more. ⊎_elim (λ e. inr (refl, (s, has_first s xs, e))) (λ later. further true s xs u (has_both_from true xs u later)) (has_cases (true ∷ s) u rest more))
    (has_cases (false ∷ s) u ((true ∷ s) ∷ rest) h)
  where
    further : (b : Bool) (s : Row) (xs : List Row) (u : Row) → OneOf b xs u → OneOf b (s ∷ xs) u
    further b s xs u h = ⊎_elim (λ (t, has, e). inl (t, has_later s t xs has, e)) (λ (on, (t, has, e)). inr (on, (t, has_later s t xs has, e))) h
has_both_from false (s ∷ xs) u h =
    let rest : List Row = both_firsts false xs in
    ⊎_elim (λ e. inl (s, has_first s xs, e))
    (λ more. ⊎_elim (λ (t, has, e). inl (t, has_later s t xs has, e)) (λ (on, _). absurd (false≢true on)) (has_both_from false xs u more))
    (has_cases (false ∷ s) u rest h)

-- what stands behind the first mark of an entry is a row of the list
behind : (b c : Bool) (xs : List Row) (s : Row) → Has (both_firsts b xs) (c ∷ s) → Has xs s
behind b c xs s h =
    let same : (d : Bool) (t : Row) → ◌≡◌ {A = Row} (d ∷ t) (c ∷ s) → t ≡ s = λ d t e. (cc) in
    ⊎_elim (λ (t, has, e). subst (Has xs) (same false t e) has) (λ (_, (t, has, e)). subst (Has xs) (same true t e) has) (has_both_from b xs (c ∷ s) h)

differ_both : (b : Bool) (xs : List Row) → Differ xs → Differ (both_firsts b xs)
differ_both b [] o = tt
differ_both true (s ∷ xs) o =
    let rest : List Row = both_firsts true xs in (
      λ h. ⊎_elim (λ e. let z : false ≡ true = cc in false≢true z) (λ more. o.0 (behind true false xs s more)) (has_cases (true ∷ s) (false ∷ s) rest h),
      (λ h. o.0 (behind true true xs s h), differ_both true xs o.1),
    )
differ_both false (s ∷ xs) o = (λ h. o.0 (behind false false xs s h), differ_both false xs o.1)

module _ (n : ℕ) (f : ℕ → Bool) (rest : List Row) (l : Lists rest (Later n f)) where
  both_firsts_lists : (b : Bool) → f 0 ≡ b → Lists (both_firsts b rest) (Among (suc n) f)
  both_firsts_lists b e = record { only = only; every = λ u among. ⊎_elim out (in' b e) (by_first n f u among); once = differ_once (both_firsts b rest) (differ_both b rest (lists_differ l)) }
    where
      only : (u : Row) → Has (both_firsts b rest) u → Among (suc n) f u
      only u h =
          ⊎_elim
          (λ (t, has, is). after n f false (λ k. absurd (false≢true k)) u (t, l.only t has, is))
          (λ (on, (t, has, is)). after n f true (λ _. e ∙ on) u (t, l.only t has, is))
          (has_both_from b rest u h)

      out : {u : Row} → After false (Later n f) u → Has (both_firsts b rest) u
      out (t, later, is) = subst (Has (both_firsts b rest)) is (has_out b rest t (l.every t later))

      in' : (b : Bool) → f 0 ≡ b → {u : Row} → (f 0 ≡ true) × After true (Later n f) u → Has (both_firsts b rest) u
      in' true e (on, (t, later, is)) = subst (Has (both_firsts true rest)) is (has_in rest t (l.every t later))
      in' false e (on, _) = absurd (both_ways (f 0) e on)

pub counted_among_lists : (n : ℕ) (f : ℕ → Bool) → Lists (counted_among n f) (Among n f)
counted_among_lists zero f = sets_among_lists zero f
counted_among_lists (suc n) f = both_firsts_lists n f (counted_among n (λ a. f (suc a))) (counted_among_lists n (λ a. f (suc a))) (f 0) refl
