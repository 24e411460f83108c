-- What is left of a list without repeats after an entry, as a function.
use Rattle.std.proofs.Common.{◌≡◌, Bool, true, false, cond, List, [], ◌∷◌, ◌++◌, sym, refl, ap, ◌∙◌, subst, ⊎_elim}
use Rattle.std.specs.List.{ContainsAt as Has}
use Rattle.std.proofs.ByRecursion.{has_append_right}
use Rattle.std.proofs.lemmas.Bool.{cases_Bool, cond-true, cond-false, false≢true}
use Rattle.game.specs.Sets.{Row}
use Rattle.game.proofs.Listing.{Differ}
use Rattle.game.proofs.StrataLists.{has_first}
use Rattle.finders.specs.Meanings.{From, start, after, Rest, whole, part, Listed}

abbrev pub same_row : Row → Row → Bool
same_row [] [] = true
same_row [] (y ∷ t) = false
same_row (x ∷ s) [] = false
same_row (true ∷ s) (true ∷ t) = same_row s t
same_row (true ∷ s) (false ∷ t) = false
same_row (false ∷ s) (true ∷ t) = false
same_row (false ∷ s) (false ∷ t) = same_row s t

same_row_itself : (s : Row) → same_row s s ≡ true
same_row_itself [] = refl
same_row_itself (true ∷ s) = same_row_itself s
same_row_itself (false ∷ s) = same_row_itself s

same_row_is : (s t : Row) → same_row s t ≡ true → s ≡ t
same_row_is [] [] e = refl
same_row_is [] (y ∷ t) e = absurd (false≢true e)
same_row_is (x ∷ s) [] e = absurd (false≢true e)
same_row_is (true ∷ s) (true ∷ t) e = ap (λ r. true ∷ r) (same_row_is s t e)
same_row_is (true ∷ s) (false ∷ t) e = absurd (false≢true e)
same_row_is (false ∷ s) (true ∷ t) e = absurd (false≢true e)
same_row_is (false ∷ s) (false ∷ t) e = ap (λ r. false ∷ r) (same_row_is s t e)

-- what stands after the first x
abbrev pub past : List Row → Row → List Row
past [] x = []
past (y ∷ ys) x = cond (same_row y x) ys (past ys x)

abbrev pub rest_of : List Row → From → List Row
rest_of xs start = xs
rest_of xs (after x) = past xs x

past_is : (before : List Row) (x : Row) (rest : List Row) → Differ (before ++ (x ∷ rest)) → past (before ++ (x ∷ rest)) x ≡ rest
past_is [] x rest differ = cond-true (same_row x x) rest (past rest x) (same_row_itself x)
past_is (b ∷ bs) x rest differ =
    cond-false (same_row b x) (bs ++ (x ∷ rest)) (past (bs ++ (x ∷ rest)) x) (⊎_elim (λ same. absurd (differ.0 (subst (Has (bs ++ (x ∷ rest))) (sym (same_row_is b x same)) (has_append_right bs (x ∷ rest) x (has_first x rest))))) (λ out. out) (cases_Bool (same_row b x)))
    ∙ past_is bs x rest differ.1

pub rest_is : (xs : List Row) (at : From) (ys : List Row) → Differ xs → Rest xs at ys → rest_of xs at ≡ ys
rest_is xs _ _ differ whole = refl
rest_is xs _ _ differ (part before x rest is) = ap (λ zs. past zs x) is ∙ past_is before x rest (subst Differ is differ)

append_one : (before : List Row) (y x : Row) (rest : List Row) → before ++ (y ∷ (x ∷ rest)) ≡ (before ++ (y ∷ [])) ++ (x ∷ rest)
append_one [] y x rest = refl
append_one (b ∷ bs) y x rest = ap (λ zs. b ∷ zs) (append_one bs y x rest)

-- one entry on
rest_on : (xs : List Row) (at : From) (x : Row) (ys zs : List Row) → Rest xs at zs → zs ≡ (x ∷ ys) → Rest xs (after x) ys
rest_on xs _ x ys _ whole e = part [] x ys e
rest_on xs _ x ys _ (part before y rest is) e = part (before ++ (y ∷ [])) x ys (is ∙ ap (λ zs. before ++ (y ∷ zs)) e ∙ append_one before y x ys)

listed_at : (xs : List Row) (x : Row) (ys : List Row) → Rest xs (after x) ys → Has xs x
listed_at xs x ys rest = go (after x) ys rest
  where
    go : (at : From) (ys : List Row) → Rest xs at ys → Listed xs at
    go _ _ whole = tt
    go _ _ (part before y rest is) = subst (λ zs. Has zs y) (sym is) (has_append_right before (y ∷ rest) y (has_first y rest))

module _ (xs : List Row) (differ : Differ xs) (at : From) (x : Row) (ys : List Row) (rest : Rest xs at (x ∷ ys)) where
  pub entry_listed : Has xs x
  entry_listed = listed_at xs x ys (rest_on xs at x ys (x ∷ ys) rest refl)

  pub entry_first : rest_of xs at ≡ (x ∷ past xs x)
  entry_first = rest_is xs at (x ∷ ys) differ rest ∙ ap (λ zs. x ∷ zs) (sym (rest_is xs (after x) ys differ (rest_on xs at x ys (x ∷ ys) rest refl)))
