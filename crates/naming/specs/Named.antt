-- The name call: which part of which text it hands back, or why it is refused.
use Rattle.std.specs.Prelude.{◌≡◌, ℕ, ◌+◌, ◌≤◌, ◌⊎◌, List, length, take, drop, Some, Ok, Err, Result}
use Rattle.std.specs.Borrow.{Bor}
use Rattle.std.specs.List.{slice_get}
use Rattle.refusals.specs.declared.fault.Text.{Text}
use Rattle.refusals.specs.declared.fault.Text.TheVariants.{Plan, Faults, Site}
use Rattle.refusals.specs.declared.fault.Fault.{Fault}
use Rattle.refusals.specs.declared.fault.Fault.TheVariants.{NoAtom}
use Rattle.reading.specs.Steps.{Standing}
use Rattle.reading.specs.Loads.{Three, ThreeRead}
use Rattle.loading.specs.Read.{ThreeGives}

-- the bytes of one of the three texts
abbrev pub bytes_of : Text → List ℕ → List ℕ → List ℕ → List ℕ
bytes_of Plan p f s = p
bytes_of Faults p f s = f
bytes_of Site p f s = s

-- a name stands where the table says: in this text, from this byte on
pub record Placed (p f s : List ℕ) (x : Standing) : Type 0 where
  pub within : x.at + length x.name ≤ length (bytes_of x.text p f s)
  pub part : x.name ≡ take (length x.name) (drop x.at (bytes_of x.text p f s))

-- x is where the atom of this number first stands, and the bytes are that part of its text
pub record Names (p f s : List ℕ) (number : ℕ) (x : Standing) (bytes : List ℕ) : Type 0 where
  pub three : Three
  pub read : ThreeRead p f s (Ok three)
  pub numbered : slice_get three.atoms number ≡ Some x
  pub placed : Placed p f s x
  pub part : bytes ≡ take (length x.name) (drop x.at (bytes_of x.text p f s))

-- the texts are read, and have too few atoms for this number
pub record Beyond (p f s : List ℕ) (number : ℕ) : Type 0 where
  pub three : Three
  pub read : ThreeRead p f s (Ok three)
  pub past : length three.atoms ≤ number

-- questions 2 to 8 first, as in a load, then 16
abbrev pub Named : List ℕ → List ℕ → List ℕ → ℕ → Result (Bor (List ℕ)) Fault → Type 0
Named p f s number (Ok r) = (x : Standing) × Names p f s number x r.now
Named p f s number (Err e) = ThreeGives p f s (Err e) ⊎ ((e ≡ NoAtom) × Beyond p f s number)
