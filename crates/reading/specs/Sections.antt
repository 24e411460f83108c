-- What reading a text gives.
use Rattle.std.specs.Prelude.{◌≡◌, ℕ, ◌≤◌, ◌⊎◌, List, length, Ok, Err, vec_items, Result}
use Rattle.programs.specs.Programs.{rules_of}
use Rattle.refusals.specs.declared.fault.Text.{Text}
use Rattle.refusals.specs.declared.fault.Fault.{Fault}
use Rattle.refusals.specs.declared.fault.Fault.TheVariants.{NoMemory}
use Rattle.reading.specs.declared.section.Section.{Section}
use Rattle.reading.specs.declared.table.Atoms.{Atoms}
use Rattle.reading.specs.Loads.{Part, part}
use Rattle.reading.specs.Steps.{State, Standing, TextRead}
use Rattle.reading.specs.Tables.{standings_of}
use Rattle.reading.specs.Within.{Within}

abbrev pub part_of : Section → Part
part_of s = record { rules = rules_of s.program; places = vec_items s.places }

-- the rules, where they start, and the table of atoms are those of the state
pub record Shows (d : State) (s : Section) (a : Atoms) : Type 0 where
  pub section : part_of s ≡ part d
  pub atoms : standings_of a ≡ d.atoms
  pub within : Within d

-- the state that the rules come from, or the refusal
abbrev pub Finishes : Result State Fault → Result (Section × Atoms) Fault → Type 0
Finishes want (Ok s) = (d : State) × (want ≡ Ok d) × Shows d s.0 s.1
Finishes want (Err f) = want ≡ Err f

-- a text is read as it should be, unless no memory was to be had for a text that is not too long
abbrev pub Gives : Text → List ℕ → List Standing → Result (Section × Atoms) Fault → Type 0
Gives t text before (Ok s) = (d : State) × TextRead t text before (Ok d) × Shows d s.0 s.1
Gives t text before (Err f) = ((f ≡ NoMemory) × (length text ≤ 16384)) ⊎ TextRead t text before (Err f)
