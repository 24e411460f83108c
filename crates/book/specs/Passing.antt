-- Which plans an ask passes over.
use Rattle.std.specs.Prelude.{Bool, true, false, ◌⊎◌, List}
use Rattle.std.specs.List.{ContainsAt as Has}
use Rattle.game.specs.Sets.{Row}
use Rattle.game.specs.Game.{Texts, Plan, nothing}
use Rattle.finders.specs.Meanings.{Meaning, Taken}
use Rattle.runs.specs.Book.{Pair, SheetBeats}

-- the plan is struck, or it is not and a reply on the sheet beats it; or neither
abbrev pub Passed : Texts → List Row → List Pair → Row → Bool → Type 0
Passed t struck sheet m true = Has struck m ⊎ ((Has struck m → ⊥) × SheetBeats t sheet m)
Passed t struck sheet m false = (Has struck m → ⊥) × (SheetBeats t sheet m → ⊥)

-- the finder takes the plan text, and the fault text with every plan given
pub record Takes (m : Meaning 96) (t : Texts) : Type 0 where
  pub plans : Taken 96 m.most t.plans nothing
  pub faults : (x : Row) → Plan t x → Taken 96 m.most t.faults x
