-- Where levels fit, a rule asks of a set only what stands no higher than its head.
use Rattle.std.proofs.Common.{◌≡◌, ℕ, ◌<◌, ◌≤◌, List}
use Rattle.std.specs.List.{ContainsAt as Has}
use Rattle.game.specs.Sets.{Row, In}
use Rattle.game.specs.Rules.{Rule, atom, Kept, PlainIn}
use Rattle.game.specs.Strata.{Leveled}
use Rattle.game.proofs.StrataLists.{all_both}

module _ {rules : List Rule} {level : ℕ → ℕ} (leveled : Leveled rules level) (r : Rule) (a : ℕ) (has : Has rules r) (head : r.head ≡ atom a) (s t : Row) where
  -- plain atoms carry over to a set that has the same atoms up to the head's level
  pub plain_upto : ((b : ℕ) → level b ≤ level a → In b s → In b t) → PlainIn s r → PlainIn t r
  plain_upto f plain = all_both _ _ _ f r.plain (leveled.plain r a has head) plain

  -- the reduct keeps the rule for a set that has no more atoms below the head's level
  pub kept_below : ((b : ℕ) → level b < level a → In b t → In b s) → Kept s r → Kept t r
  kept_below f kept = all_both _ _ _ (λ b low out i. out (f b low i)) r.negated (leveled.negated r a has head) kept
