-- What reading a side and three texts gives.
use Rattle.std.specs.Prelude.{◌≡◌, ℕ, ◌≤◌, ◌⊎◌, List, length, Ok, Err, Result}
use Rattle.refusals.specs.declared.fault.Fault.{Fault}
use Rattle.refusals.specs.declared.fault.Fault.TheVariants.{NoMemory}
use Rattle.game.specs.Sides.{Side, side_number}
use Rattle.reading.specs.Loads.{Loads}
use Rattle.grammar.specs.Loaded.{Sources, Allowed, Meant}
use Rattle.loading.specs.declared.games.Game.{Game}
use Rattle.loading.specs.Sided.{side_of}
use Rattle.loading.specs.Read.{three_of}

-- the game is read as it should be, unless no memory was to be had for a right side and a plan text that is not too long
abbrev pub GameGives : ℕ → List ℕ → List ℕ → List ℕ → Result Game Fault → Type 0
GameGives n p f s (Ok g) = Loads n p f s (Ok (side_of g.side, three_of g.texts))
GameGives n p f s (Err e) = ((e ≡ NoMemory) × (((x : Side) × (side_number x ≡ n)) × (length p ≤ 16384))) ⊎ Loads n p f s (Err e)

-- what is read is what the format allows, as it is meant; what is refused the format does not allow, unless no memory was to be had
abbrev pub AllowedExactly : ℕ → List ℕ → List ℕ → List ℕ → Result Game Fault → Type 0
AllowedExactly n p f s (Ok g) = (w : Sources) × Allowed n p f s w × Meant w (three_of g.texts)
AllowedExactly n p f s (Err e) = (e ≡ NoMemory) ⊎ ((w : Sources) → Allowed n p f s w → ⊥)
