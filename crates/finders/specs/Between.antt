-- Answer sets that lie between two sets.
use Rattle.std.specs.Prelude.{◌≡◌, ℕ, ◌<◌, ◌≤◌, ◌⊎◌, List}
use Rattle.game.specs.Sets.{Row, In, Within, union}
use Rattle.game.specs.Rules.{Rule}
use Rattle.game.specs.AnswerSets.{AnswerSet}
use Rattle.finders.specs.Orders.{Lexical}

-- i is an answer set that has all of `low` and nothing but `high`, with the given atoms
pub record Between (rules : List Rule) (given low high i : Row) : Type 0 where
  pub answer : AnswerSet rules given i
  pub above : Within low (union i given)
  pub below : Within (union i given) high

-- the sets low' and high' are closer together, and the same answer sets lie between them
pub record Narrower (rules : List Rule) (given low high low' high' : Row) : Type 0 where
  pub ordered : Within low' high'
  pub more : Within low low'
  pub fewer : Within high' high
  pub same : (i : Row) → Between rules given low high i → Between rules given low' high' i

-- x is the first row with P
pub record First (P : Row → Type 0) (x : Row) : Type 0 where
  pub is : P x
  pub least : (z : Row) → P z → (z ≡ x) ⊎ Lexical x z

-- a is the lowest atom of the set
pub record Lowest (s : Row) (a : ℕ) : Type 0 where
  pub inside : In a s
  pub none_below : (j : ℕ) → j < a → In j s → ⊥

-- z is an answer set that comes after the entry
pub record Follows (rules : List Rule) (given entry z : Row) : Type 0 where
  pub answer : AnswerSet rules given z
  pub later : Lexical entry z

-- the bounds of the sets that agree with the entry below a, have a, and are made of heads and given atoms
pub record Turned (given heads entry : Row) (a : ℕ) (low high : Row) : Type 0 where
  pub around : Within given low
  pub entry_in : (j : ℕ) → j < a → In j entry → In j low
  pub turn_in : In a low
  pub low_from : (j : ℕ) → In j low → In j given ⊎ (((j < a) × In j entry) ⊎ (j ≡ a))
  pub ordered : Within low high
  pub heads_in : (j : ℕ) → a ≤ j → In j heads → In j high
  pub high_from : (j : ℕ) → In j high → In j low ⊎ ((a ≤ j) × In j heads)
