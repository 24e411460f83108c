-- Sets of heads one after another, as binary numbers that ascend.
use Rattle.std.specs.Prelude.{◌≡◌, ℕ, ◌⊎◌, List, length}
use Rattle.game.specs.Sets.{Row, Within}
use Rattle.game.specs.Rules.{Rule, is_head}
use Rattle.game.specs.AnswerSets.{AnswerSet}
use Rattle.game.proofs.Rows.{row}
use Rattle.finders.specs.Orders.{Lower}

-- hs is the row of the heads
abbrev pub HeadsAre : ℕ → List Rule → Row → Type 0
HeadsAre n rules hs = hs ≡ row n (is_head rules)

-- s is a set of heads, where hs is the row of all of them
pub record SetOf (hs s : Row) : Type 0 where
  pub width : length s ≡ length hs
  pub within : Within s hs

-- t is s, or comes after it
abbrev pub UpFrom : Row → Row → Type 0
UpFrom s t = (s ≡ t) ⊎ Lower s t

-- y is the next set of heads after s
pub record Next (hs s y : Row) : Type 0 where
  pub set : SetOf hs y
  pub above : Lower s y
  pub least : (z : Row) → SetOf hs z → Lower s z → UpFrom y z

-- no set of heads comes after s
abbrev pub Last : Row → Row → Type 0
Last hs s = (z : Row) → SetOf hs z → Lower s z → ⊥

-- y is the first answer set from s on
pub record First (rules : List Rule) (given s y : Row) : Type 0 where
  pub answer : AnswerSet rules given y
  pub from : UpFrom s y
  pub least : (z : Row) → AnswerSet rules given z → UpFrom s z → UpFrom y z

-- there is no answer set from s on
abbrev pub NoneFrom : List Rule → Row → Row → Type 0
NoneFrom rules given s = (z : Row) → AnswerSet rules given z → UpFrom s z → ⊥
