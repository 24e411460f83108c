-- What an ask asks first, and what it says of the texts.
use Rattle.std.specs.Prelude.{ℕ, ◌<◌, Bool, true, false, ◌⊎◌, List}
use Rattle.game.specs.Rules.{Rule}
use Rattle.game.specs.Sides.{Side, some_plan, every_plan}
use Rattle.finders.specs.Meanings.{heads_below}
use Rattle.runs.specs.Book.{Coherence, coherent, incoherent}

-- more heads than this, in the plan text or in the fault text
abbrev pub Over : ℕ → List Rule → List Rule → Type 0
Over most plans faults = (most < heads_below 96 plans) ⊎ (most < heads_below 96 faults)

-- the coherence of texts, by the side and by whether some plan wins
abbrev pub coherence_by : Side → Bool → Coherence
coherence_by some_plan true = coherent
coherence_by some_plan false = incoherent
coherence_by every_plan true = incoherent
coherence_by every_plan false = coherent
