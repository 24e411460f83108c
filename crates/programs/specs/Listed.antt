-- Rules with their bodies as rows.
use Rattle.std.specs.Prelude.{ℕ, List}
use Rattle.game.specs.Sets.{Row}
use Rattle.game.specs.Rules.{Head, Rule, among}
use Rattle.game.proofs.Rows.{row}

-- a rule whose body is two sets of atoms below 96
pub record RowRule : Type 0 where
  pub head : Head
  pub plain : Row
  pub negated : Row

-- the set of the atoms on a list
unfoldable pub listed : List ℕ → Row
listed as' = row 96 (λ a. among a as')

abbrev pub in_rows : Rule → RowRule
in_rows r = record { head = r.head; plain = listed r.plain; negated = listed r.negated }
