-- The questions that are put to a job, and its heads.
use Rattle.std.specs.Prelude.{◌≡◌, ℕ, ◌<◌, ◌≤◌, true, List}
use Rattle.game.specs.Sets.{Row, In}
use Rattle.game.specs.Rules.{Rule, is_head}
use Rattle.game.proofs.Rows.{row}
use Rattle.finders.specs.declared.finder.Refusal.{Refusal}
use Rattle.finders.specs.declared.finder.Refusal.TheVariants.{ManyHeads, GivenHead}
use Rattle.finders.specs.Meanings.{Taken, heads_below}

-- the job is taken, and these are its heads
pub record HeadsTaken (n most : ℕ) (rules : List Rule) (given hs : Row) : Type 0 where
  pub taken : Taken n most rules given
  pub are : hs ≡ row n (is_head rules)

-- the job is refused before an earlier entry is looked at
pub data Refused (n most : ℕ) (rules : List Rule) (given : Row) : Refusal → Type 0 where
  many_heads : most < heads_below n rules → Refused n most rules given ManyHeads
  given_head : (a : ℕ) → heads_below n rules ≤ most → In a given → is_head rules a ≡ true → Refused n most rules given GivenHead
