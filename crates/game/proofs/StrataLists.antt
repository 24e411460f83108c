-- What a list has, by its first element, and what holds of every element of a list.
use Rattle.std.proofs.Common.{◌≡◌, zero, suc, ◌⊎◌, List, [], ◌∷◌, ◌++◌, refl, subst, inl, inr, ⊎_elim, arith}
use Rattle.std.specs.List.{ContainsAt as Has, AllByRecursion}

pub has_first : {X : Type 0} (x : X) (xs : List X) → Has (x ∷ xs) x
has_first x xs = (0, omega arith, λ d. refl)

pub has_later : {X : Type 0} (x y : X) (xs : List X) → Has xs y → Has (x ∷ xs) y
has_later x y xs (k, h, at) = (suc k, omega arith, at)

pub has_cases : {X : Type 0} (x y : X) (xs : List X) → Has (x ∷ xs) y → (x ≡ y) ⊎ Has xs y
has_cases x y xs (zero, h, at) = inl (at x)
has_cases x y xs (suc k, h, at) = inr (k, omega arith, at)

pub has_append_cases : {X : Type 0} (xs ys : List X) (x : X) → Has (xs ++ ys) x → Has xs x ⊎ Has ys x
has_append_cases [] ys x h = inr h
has_append_cases (y ∷ xs) ys x h = ⊎_elim (λ e. inl (subst (Has (y ∷ xs)) e (has_first y xs))) (λ later. ⊎_elim (λ left. inl (has_later y x xs left)) inr (has_append_cases xs ys x later)) (has_cases y x (xs ++ ys) h)

pub all_both : {X : Type 0} (P Q R : X → Type 0) → ((x : X) → P x → Q x → R x) → (xs : List X) → AllByRecursion P xs → AllByRecursion Q xs → AllByRecursion R xs
all_both P Q R f [] p q = tt
all_both P Q R f (x ∷ xs) (p, ps) (q, qs) = (f x p q, all_both P Q R f xs ps qs)
