-- What reading three texts gives.
use Rattle.std.specs.Prelude.{◌≡◌, ℕ, ◌≤◌, ◌⊎◌, List, length, Ok, Err, Result, slice_index}
use Rattle.refusals.specs.declared.fault.Fault.{Fault}
use Rattle.refusals.specs.declared.fault.Fault.TheVariants.{NoMemory, Unstratified}
use Rattle.game.specs.Strata.{FirstBreak}
use Rattle.reading.specs.Loads.{Part, Three, ThreeRead}
use Rattle.reading.specs.Sections.{part_of}
use Rattle.reading.specs.Tables.{standings_of}
use Rattle.loading.specs.declared.texts.Texts.{Texts}

abbrev pub three_of : Texts → Three
three_of t = record { plan = part_of t.plan; faults = part_of t.faults; site = part_of t.site; atoms = standings_of t.atoms }

-- the texts are read as they should be, unless no memory was to be had for a plan text that is not too long
abbrev pub ThreeGives : List ℕ → List ℕ → List ℕ → Result Texts Fault → Type 0
ThreeGives p f s (Ok t) = ThreeRead p f s (Ok (three_of t))
ThreeGives p f s (Err e) = ((e ≡ NoMemory) × (length p ≤ 16384)) ⊎ ThreeRead p f s (Err e)

-- the refusal of a text that is not stratified stands where its first rule that breaks the strata starts
abbrev pub Unlayered : Part → Fault → Type 0
Unlayered q f = (i : ℕ) × FirstBreak q.rules i × (f ≡ Unstratified (slice_index q.places i))
