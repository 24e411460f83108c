-- A loop that goes over a list from its start, where a function F of the list is what it computes:
-- what is left of the list gives the same as the whole.
use Rattle.std.proofs.Common.{◌≡◌, ℕ, ◌+◌, ◌<◌, ◌≤◌, List, [], ◌∷◌, length, get_or, drop, sym, ◌∙◌}
use Rattle.std.proofs.lemmas.List.{at_drop_more, at_drop_all}

module _ {X Y : Type 0} (F : List X → Y) (xs : List X) (i : ℕ) (left : F (drop i xs) ≡ F xs) where
  -- the element at i settles the answer
  pub stops : (d : X) (y : Y) → i < length xs → ((rest : List X) → F (get_or xs i d ∷ rest) ≡ y) → y ≡ F xs
  stops d y h at = sym (at (drop (i + 1) xs)) ∙ sym (at_drop_more F xs i d h) ∙ left

  -- the element at i leaves the answer to the rest
  pub goes : (d : X) → i < length xs → ((rest : List X) → F (get_or xs i d ∷ rest) ≡ F rest) → F (drop (i + 1) xs) ≡ F xs
  goes d h at = sym (at (drop (i + 1) xs)) ∙ sym (at_drop_more F xs i d h) ∙ left

  -- nothing is left
  pub ends : length xs ≤ i → F [] ≡ F xs
  ends h = sym (at_drop_all F xs i h) ∙ left
