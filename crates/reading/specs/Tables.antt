-- The table of atoms that a value of the code stands for, and how it takes a name.
use Rattle.std.specs.Prelude.{◌≡◌, ℕ, ◌⊎◌, List, map, Ok, Err, vec_items, Result}
use Rattle.refusals.specs.declared.fault.Text.{Text}
use Rattle.refusals.specs.declared.fault.Fault.{Fault}
use Rattle.refusals.specs.declared.fault.Fault.TheVariants.{NoMemory}
use Rattle.reading.specs.declared.table.Atom.{Atom}
use Rattle.reading.specs.declared.table.Atoms.{Atoms}
use Rattle.reading.specs.Steps.{Standing, index, entered}

abbrev pub standing : Atom → Standing
standing a = record { text = a.text; at = a.at; name = a.name.now }

abbrev pub standings : List Atom → List Standing
standings as' = map standing as'

abbrev pub standings_of : Atoms → List Standing
standings_of t = standings (vec_items t.entries)

-- a name is entered at a place: its number comes back, or the refusal
abbrev pub Enters : Text → ℕ → List ℕ → List Standing → List Standing → Result ℕ Fault → Type 0
Enters t at n was now (Ok k) = (k ≡ index n was) × (entered t at n was ≡ Ok now)
Enters t at n was now (Err f) = (f ≡ NoMemory) ⊎ (entered t at n was ≡ Err f)
