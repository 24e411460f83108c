-- The side that a number asks for.
use Rattle.std.specs.Prelude.{◌≡◌, ℕ, Ok, Err, Result, ◌≢◌}
use Rattle.game.specs.Sides as game
use Rattle.refusals.specs.declared.fault.Fault.{Fault}
use Rattle.refusals.specs.declared.fault.Fault.TheVariants.{WrongSide}
use Rattle.loading.specs.declared.side.Side.{Side}
use Rattle.loading.specs.declared.side.Side.TheVariants.{SomePlan, EveryPlan}

abbrev pub side_of : Side → game.Side
side_of SomePlan = game.some_plan
side_of EveryPlan = game.every_plan

abbrev pub Sided : ℕ → Result Side Fault → Type 0
Sided n (Ok x) = game.side_number (side_of x) ≡ n
Sided n (Err f) = (f ≡ WrongSide) × ((x : game.Side) → game.side_number x ≢ n)
