-- Laws of the tests on lists of atoms.
use Rattle.std.proofs.Common.{◌≡◌, ℕ, ◌<◌, Bool, true, false, not, ◌&&◌, ◌||◌, List, [], ◌∷◌, length, get_or, sym, refl, ap, ◌∙◌, arith}
use Rattle.std.proofs.lemmas.List.Recursion.{or_is}
use Rattle.game.specs.Sets.{Row}
use Rattle.game.specs.Derives.{none_in}
use Rattle.game.specs.Published.{any_in}

not_or : (x y : Bool) → not (x || y) ≡ (not x && not y)
not_or true y = refl
not_or false y = refl

pub none_is_not_any : (s : Row) (as' : List ℕ) → not (any_in s as') ≡ none_in s as'
none_is_not_any s [] = refl
none_is_not_any s (a ∷ as') = not_or (get_or s a false) (any_in s as') ∙ ap (λ b. not (get_or s a false) && b) (none_is_not_any s as')

-- r is what `any` answered, where no element is at hand for the places past the end
pub any_is : {X : Type 0} (F : List X → Bool) (p : X → Bool) → F [] ≡ false → ((x : X) (xs : List X) → F (x ∷ xs) ≡ (p x || F xs)) → (xs : List X) (r : Bool) → (r ≡ true → (i : ℕ) × (i < length xs) × ((d : X) → p (get_or xs i d) ≡ true)) → (r ≡ false → (i : ℕ) → i < length xs → (d : X) → p (get_or xs i d) ≡ false) → r ≡ F xs
any_is F p none step [] true so not_so = let (i, less, at) = so refl in absurd (omega arith)
any_is F p none step [] false so not_so = sym none
any_is F p none step (x ∷ xs) r so not_so = or_is F p none step (x ∷ xs) x r (λ e. let (i, less, at) = so e in (i, less, at x)) (λ e i less. not_so e i less x)
