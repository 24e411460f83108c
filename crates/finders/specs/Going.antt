-- How a finder goes on from a place: with the set that it found, or none, or with no.
use Rattle.std.specs.Prelude.{◌≡◌, ℕ, false, List, [], ◌∷◌, replicate, Some, None, Option}
use Rattle.std.specs.List.{ContainsAt as Has}
use Rattle.game.specs.Sets.{Row}
use Rattle.closure.specs.declared.row.Row as code
use Rattle.finders.specs.declared.finder.Found.{Found}
use Rattle.finders.specs.declared.finder.Found.TheVariants.{Entry, End}
use Rattle.finders.specs.declared.finder.Refusal.{Refusal}
use Rattle.finders.specs.declared.finder.Refusal.TheVariants.{Unlisted}
use Rattle.finders.specs.Meanings.{From, after, Rest}

-- the set comes next on the list, or the list is at its end
abbrev pub GoesOn : {n : ℕ} → List Row → From → Option (code.Row n) → Type 0
GoesOn xs at None = Rest xs at []
GoesOn xs at (Some set) = (rest : List Row) × Rest xs at (set.marks ∷ rest)

-- the earlier entry is not on the list
pub data NotListed (xs : List Row) (at : From) : Refusal → Type 0 where
  not_listed : (x : Row) → at ≡ after x → (Has xs x → ⊥) → NotListed xs at Unlisted

-- what is told and written of the set
abbrev pub Written : {n : ℕ} → Option (code.Row n) → Found → Row → Type 0
Written {n} None told row = (told ≡ End) × (row ≡ replicate n false)
Written (Some set) told row = (told ≡ Entry) × (row ≡ set.marks)
