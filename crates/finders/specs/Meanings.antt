-- What a finder means: for every job that it takes, an order of that job's answer sets.
use Rattle.std.specs.Prelude.{◌≡◌, ℕ, ◌≤◌, true, List, ◌∷◌, ◌++◌, length, ◌≢◌}
use Rattle.std.specs.List.{ContainsAt as Has}
use Rattle.game.specs.Sets.{Row, In}
use Rattle.game.specs.Rules.{Rule, is_head}
use Rattle.game.specs.AnswerSets.{AnswerSet}
use Rattle.game.specs.Heads.{Lists}
use Rattle.game.proofs.Rows.{row}
use Rattle.closure.specs.Rows.{marked}
use Rattle.programs.specs.Limits.{fits}

-- how many atoms below n are heads
abbrev pub heads_below : ℕ → List Rule → ℕ
heads_below n rules = marked (row n (is_head rules))

-- a job, the rules of a program over atoms below n and a row of given atoms, that passes the two questions put to it:
-- its heads are at most the finder's most, and no given atom is a head
pub record Taken (n most : ℕ) (rules : List Rule) (given : Row) : Type 0 where
  pub kept : fits n rules ≡ true
  pub width : length given ≡ n
  pub few : heads_below n rules ≤ most
  pub apart : (a : ℕ) → In a given → is_head rules a ≢ true

-- a finder's most, and an order; the law: every answer set of the job stands there exactly once, and nothing else does
pub record Meaning (n : ℕ) : Type 0 where
  pub most : ℕ
  pub order : List Rule → Row → List Row
  pub law : (rules : List Rule) (given : Row) → Taken n most rules given → Lists (order rules given) (AnswerSet rules given)

-- where a listing goes on: at the start, or after an earlier entry
pub data From : Type 0 where
  start : From
  after : Row → From

-- what is left of a list from there on
pub data Rest (xs : List Row) : From → List Row → Type 0 where
  whole : Rest xs start xs
  part : (before : List Row) (x : Row) (rest : List Row) → xs ≡ before ++ (x ∷ rest) → Rest xs (after x) rest

-- an earlier entry stands on the list
abbrev pub Listed : List Row → From → Type 0
Listed xs start = Unit {0}
Listed xs (after x) = Has xs x
