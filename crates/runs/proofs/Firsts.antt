-- The first element of a list with a property: there is one or none has it, and there is no second one.
use Rattle.std.proofs.Common.{◌≡◌, ◌⊎◌, List, [], ◌∷◌, sym, refl, ◌∙◌, subst, inl, inr}
use Rattle.std.specs.List.{ContainsAt as Has, AllByRecursion}
use Rattle.game.proofs.StrataLists.{has_first, has_later}
use Rattle.runs.specs.Book.{First}

module _ {X : Type 0} (P : X → Type 0) where
  pub first_holds : (xs : List X) (x : X) → First P xs x → P x
  first_holds [] x f = absurd f
  first_holds (y ∷ xs) x (inl h) = h.1
  first_holds (y ∷ xs) x (inr h) = first_holds xs x h.1

  pub first_has : (xs : List X) (x : X) → First P xs x → Has xs x
  first_has [] x f = absurd f
  first_has (y ∷ xs) x (inl h) = subst (Has (y ∷ xs)) h.0 (has_first y xs)
  first_has (y ∷ xs) x (inr h) = has_later y x xs (first_has xs x h.1)

  pub one_first : (xs : List X) (x y : X) → First P xs x → First P xs y → x ≡ y
  one_first [] x y f g = absurd f
  one_first (z ∷ xs) x y (inl h) (inl k) = sym h.0 ∙ k.0
  one_first (z ∷ xs) x y (inl h) (inr k) = absurd (k.0 (subst P (sym h.0) h.1))
  one_first (z ∷ xs) x y (inr h) (inl k) = absurd (h.0 (subst P (sym k.0) k.1))
  one_first (z ∷ xs) x y (inr h) (inr k) = one_first xs x y h.1 k.1

  pub first_or_none : ((x : X) → Dec (P x)) → (xs : List X) → ((x : X) × First P xs x) ⊎ AllByRecursion (λ x. P x → ⊥) xs
  first_or_none dec [] = inr tt
  first_or_none dec (x ∷ xs) = go (dec x) (first_or_none dec xs)
    where
      go : Dec (P x) → (((y : X) × First P xs y) ⊎ AllByRecursion (λ y. P y → ⊥) xs) → ((y : X) × First P (x ∷ xs) y) ⊎ AllByRecursion (λ y. P y → ⊥) (x ∷ xs)
      go (yes p) rest = inl (x, inl (refl, p))
      go (no n) (inl (y, f)) = inl (y, inr (n, f))
      go (no n) (inr none) = inr (n, none)
