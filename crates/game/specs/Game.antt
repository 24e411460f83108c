-- The game of plans against faults: two quantifiers over answer sets, and a check.
use Rattle.std.specs.Prelude.{false, List, replicate}
use Rattle.game.specs.Sets.{Row, union}
use Rattle.game.specs.Rules.{Rule}
use Rattle.game.specs.Sides.{Side, some_plan, every_plan}
use Rattle.game.specs.AnswerSets.{AnswerSet}

-- a side, and the rules of the three texts
pub record Texts : Type 0 where
  pub side : Side
  pub plans : List Rule
  pub faults : List Rule
  pub site : List Rule

-- the empty set, as a row of 96 marks
abbrev pub nothing : Row
nothing = replicate 96 false

abbrev pub Plan : Texts → Row → Type 0
Plan t m = AnswerSet t.plans nothing m

abbrev pub Reply : Texts → Row → Row → Type 0
Reply t m r = AnswerSet t.faults m r

-- the site text holds for the plan m and the reply r
abbrev pub Holds : Texts → Row → Row → Type 0
Holds t m r = ∥ ((s : Row) × AnswerSet t.site (union m r) s) ∥₁

abbrev pub Refutes : Side → Type 0 → Type 0
Refutes some_plan holds = holds → ⊥
Refutes every_plan holds = holds

-- r is a reply to m, and the site text then is as the side does not want it
abbrev pub Beats : Texts → Row → Row → Type 0
Beats t m r = Reply t m r × Refutes t.side (Holds t m r)

-- a plan without replies wins
abbrev pub Wins : Texts → Row → Type 0
Wins t m = Plan t m × ((r : Row) → Beats t m r → ⊥)

-- on the first side some plan wins, on the second none does
abbrev pub Coherent : Texts → Type 0
Coherent t = elim t.side [ some_plan ↦ ∥ ((m : Row) × Wins t m) ∥₁ | every_plan ↦ ((m : Row) → Wins t m → ⊥) ]
