-- Looking through a list for an element whose image has a property.
use Rattle.std.proofs.Common.{◌≡◌, ℕ, zero, suc, ◌<◌, Bool, true, false, List, [], ◌∷◌, map, length, Decides, sym, refl, ap, ◌∙◌, subst, ⊎_elim, arith}
use Rattle.std.specs.Bool.{MatchBool}
use Rattle.std.specs.List.{ContainsAt as Has, HoldsAt, AllWithin, list_any}
use Rattle.std.proofs.lemmas.Bool.{false≢true, or_cases, or_left, or_right}
use Rattle.game.proofs.Listing.{has_map_from}
use Rattle.game.proofs.StrataLists.{has_first, has_later, has_cases}

module _ {A B : Type 0} (f : A → B) (P : B → Type 0) where
  pub held : (xs : List A) → (k : ℕ) × (k < length xs) × HoldsAt (λ x. P (f x)) xs k → (y : B) × Has (map f xs) y × P y
  held [] (k, less, at) = absurd (omega arith)
  held (x ∷ xs) (zero, less, at) = (f x, has_first (f x) (map f xs), at x)
  held (x ∷ xs) (suc k, less, at) = let (y, h, p) = held xs (k, omega arith, at) in (y, has_later (f x) y (map f xs) h, p)

  pub none_held : (xs : List A) → AllWithin (λ x. P (f x) → ⊥) xs 0 (length xs) → (y : B) → Has (map f xs) y → P y → ⊥
  none_held xs none y h p = let (x, (k, less, at), e) = has_map_from f xs y h in none k x (omega arith) less (subst P (sym (ap f (at x) ∙ e)) p)

  pub found_decides : (r : Bool) (xs : List A) → MatchBool r ((k : ℕ) × (k < length xs) × HoldsAt (λ x. P (f x)) xs k) (AllWithin (λ x. P (f x) → ⊥) xs 0 (length xs)) → Decides r ((y : B) × Has (map f xs) y × P y)
  found_decides true xs h = (λ _. held xs h, λ _. refl)
  found_decides false xs h = (λ e. absurd (false≢true e), λ (y, has, p). absurd (none_held xs h y has p))

  -- a test of the elements tells whether the image of one has the property
  module _ (test : A → Bool) (tells : (x : A) → Decides (test x) (P (f x))) where
    passed : (xs : List A) → list_any test xs ≡ true → (y : B) × Has (map f xs) y × P y
    passed [] e = absurd (false≢true e)
    passed (x ∷ xs) e =
        ⊎_elim (λ here. (f x, has_first (f x) (map f xs), (tells x).0 here)) (λ later. let (y, h, p) = passed xs later in (y, has_later (f x) y (map f xs) h, p))
        (or_cases (test x) (list_any test xs) e)

    passes : (xs : List A) (y : B) → Has (map f xs) y → P y → list_any test xs ≡ true
    passes [] y (k, less, at) p = absurd (omega arith)
    passes (x ∷ xs) y h p =
        ⊎_elim (λ e. or_left (test x) (list_any test xs) ((tells x).1 (subst P (sym e) p))) (λ later. or_right (test x) (list_any test xs) (passes xs y later p))
        (has_cases (f x) y (map f xs) h)

    pub any_decides : (xs : List A) → Decides (list_any test xs) ((y : B) × Has (map f xs) y × P y)
    any_decides xs = (passed xs, λ (y, h, p). passes xs y h p)
