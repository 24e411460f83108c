-- The report: its bytes, and what the call that writes it promises.
use Rattle.std.specs.Prelude.{◌≡◌, ℕ, ◌<◌, Bool, true, false, cond, ◌⊎◌, List, [], ◌∷◌, ◌++◌, length, Some, None, Ok, Err, codes, Option, Result}
use Rattle.game.specs.Sets.{In}
use Rattle.closure.specs.declared.row.Row.{Row}
use Rattle.refusals.specs.declared.fault.Fault.{Fault}
use Rattle.refusals.specs.declared.fault.Fault.TheVariants.{NoAtom}
use Rattle.refusals.specs.Room.{Written, Unwritten}
use Rattle.reading.specs.Steps.{Standing}
use Rattle.reading.specs.Loads.{Three, ThreeRead}
use Rattle.loading.specs.Read.{ThreeGives}

abbrev pub coherence_line : Bool → List ℕ
coherence_line true = codes "% coherent\n"
coherence_line false = codes "% incoherent\n"

-- each marked atom's name and a dot, on a line of its own, in the order of the numbers
abbrev pub atom_lines : List Standing → List Bool → List ℕ
atom_lines [] marks = []
atom_lines (x ∷ xs) [] = []
atom_lines (x ∷ xs) (m ∷ marks) = cond m (x.name ++ codes ".\n") [] ++ atom_lines xs marks

abbrev pub plan_lines : Option (Row 96) → List Standing → List ℕ
plan_lines None atoms = codes "% no plan\n"
plan_lines (Some row) atoms = codes "% plan\n" ++ atom_lines atoms row.marks

abbrev pub report_bytes : Bool → Option (Row 96) → List Standing → List ℕ
report_bytes coherent shown atoms = coherence_line coherent ++ plan_lines shown atoms

-- question 16, of a plan that is shown: each marked number is one of so many atoms
abbrev pub Known : Option (Row 96) → ℕ → Type 0
Known None n = Unit {0}
Known (Some row) n = (k : ℕ) → In k row.marks → k < n

-- the texts are read, and each marked number is an atom of theirs: the report is written
pub record Wrote (p f s : List ℕ) (coherent : Bool) (shown : Option (Row 96)) (before after : List ℕ) (n : ℕ) : Type 0 where
  pub three : Three
  pub read : ThreeRead p f s (Ok three)
  pub known : Known shown (length three.atoms)
  pub written : Written (report_bytes coherent shown three.atoms) before after n

-- the texts are read, and some marked number is no atom of theirs
pub record Strange (p f s : List ℕ) (shown : Option (Row 96)) : Type 0 where
  pub three : Three
  pub read : ThreeRead p f s (Ok three)
  pub unknown : Known shown (length three.atoms) → ⊥

-- the same as in `Wrote`, but the report does not fit
pub record Crowded (p f s : List ℕ) (coherent : Bool) (shown : Option (Row 96)) (before after : List ℕ) (e : Fault) : Type 0 where
  pub three : Three
  pub read : ThreeRead p f s (Ok three)
  pub known : Known shown (length three.atoms)
  pub unwritten : Unwritten (report_bytes coherent shown three.atoms) before after e

-- questions 2 to 8 first, as in a load, then 16, then 17; a refused report changes nothing
abbrev pub Reported : List ℕ → List ℕ → List ℕ → Bool → Option (Row 96) → List ℕ → List ℕ → Result ℕ Fault → Type 0
Reported p f s coherent shown before after (Ok n) = Wrote p f s coherent shown before after n
Reported p f s coherent shown before after (Err e) = (after ≡ before) × (ThreeGives p f s (Err e) ⊎ (((e ≡ NoAtom) × Strange p f s shown) ⊎ Crowded p f s coherent shown before after e))
