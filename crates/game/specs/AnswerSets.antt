-- Answer sets by the Gelfond-Lifschitz reduct, with atoms given from outside.
use Rattle.std.specs.Prelude.{◌≡◌, ℕ, true, List, length}
use Rattle.std.specs.List.{ContainsAt as Has}
use Rattle.game.specs.Sets.{Row, In, Within, union}
use Rattle.game.specs.Rules.{Rule, Obeys, Kept, PlainIn, is_head, none}

-- s is the smallest set that contains `given` and obeys the reduct of the rules for x
pub record Smallest (rules : List Rule) (given x s : Row) : Type 0 where
  pub around : Within given s
  pub obeys : Obeys rules x s
  pub least : (t : Row) → length t ≡ length s → Within given t → Obeys rules x t → Within s t

-- no constraint has all its plain atoms and none of its negated atoms in s
abbrev pub Allowed : List Rule → Row → Type 0
Allowed rules s = (r : Rule) → Has rules r → r.head ≡ none → Kept s r → PlainIn s r → ⊥

-- i, a set of heads, is an answer set of the rules with these atoms given
pub record AnswerSet (rules : List Rule) (given i : Row) : Type 0 where
  pub width : length i ≡ length given
  pub heads : (a : ℕ) → In a i → is_head rules a ≡ true
  pub smallest : Smallest rules given (union i given) (union i given)
  pub allowed : Allowed rules (union i given)
