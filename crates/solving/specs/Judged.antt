-- What a judgement says.
use Rattle.std.specs.Prelude.{◌≡◌, ℕ, Bool, true, List, ◌≢◌}
use Rattle.game.specs.Sets.{Row, In}
use Rattle.game.specs.Rules.{Rule, headed, is_head}
use Rattle.game.specs.AnswerSets.{AnswerSet}

-- the answer is yes exactly when the rules have an answer set with these atoms given
pub record Judged (rules : List Rule) (given : Row) (yes' : Bool) : Type 0 where
  pub has : yes' ≡ true → (s : Row) × AnswerSet rules given s
  pub every : (s : Row) → AnswerSet rules given s → yes' ≡ true

-- r is the one answer set of the headed rules, where no given atom is a head
pub record OneAnswer (rules : List Rule) (given r : Row) : Type 0 where
  pub answer : AnswerSet (headed rules) given r
  pub only : ((a : ℕ) → In a given → is_head rules a ≢ true) → (s : Row) → AnswerSet (headed rules) given s → s ≡ r
