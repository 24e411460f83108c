-- The first of a list with a property, looked for one entry after another.
use Rattle.std.proofs.Common.{◌<◌, List, [], ◌∷◌, length, sym, refl, ap, subst, inl, inr, arith}
use Rattle.std.specs.List.{AllByRecursion}
use Rattle.game.specs.Sets.{Row}
use Rattle.game.proofs.Listing.{Differ}
use Rattle.finders.specs.Meanings.{From, Rest}
use Rattle.finders.proofs.Resting.{rest_of, past, rest_is, entry_first}
use Rattle.runs.specs.Book.{First}

-- what is first on the rest is first on the whole, and where the rest has none, the whole has none
pub record SameFrom (P : Row → Type 0) (xs rest : List Row) : Type 0 where
  pub first : (x : Row) → First P rest x → First P xs x
  pub none : AllByRecursion (λ x. P x → ⊥) rest → AllByRecursion (λ x. P x → ⊥) xs

module _ (P : Row → Type 0) (xs : List Row) (differ : Differ xs) (at : From) (x : Row) (ys : List Row) (rest : Rest xs at (x ∷ ys)) (same : SameFrom P xs (rest_of xs at)) where
  here : SameFrom P xs (x ∷ past xs x)
  here = subst (SameFrom P xs) (entry_first xs differ at x ys rest) same

  pub found_here : P x → First P xs x
  found_here p = here.first x (inl (refl, p))

  pub not_here : (P x → ⊥) → SameFrom P xs (past xs x)
  not_here out = record { first = λ y f. here.first y (inr (out, f)); none = λ a. here.none (out, a) }

  pub fewer_left : length (past xs x) < length (rest_of xs at)
  fewer_left = let e = ap length (entry_first xs differ at x ys rest) in omega arith

pub none_left : (P : Row → Type 0) (xs : List Row) (differ : Differ xs) (at : From) → Rest xs at [] → SameFrom P xs (rest_of xs at) → AllByRecursion (λ x. P x → ⊥) xs
none_left P xs differ at rest same = same.none (subst (AllByRecursion (λ x. P x → ⊥)) (sym (rest_is xs at [] differ rest)) tt)
