-- What is read of a file.
use Rattle.std.specs.Prelude.{◌≡◌, ◌≢◌, ◌⊎◌, ℕ, [], Ok, Err, Result, IsOkAnd, vec_items}
use Rattle.std.specs.IoError.{error_kind}
use Rattle.std.specs.declared.io.ErrorKind.TheVariants.{NotFound}
use Rattle.std.specs.declared.io.Error.{Error}
use Rattle.std.specs.declared.vec.Vec.{Vec}
use Rattle.std.specs.declared.alloc.Global.{Global}
use Rattle.loading.specs.declared.sources.Three.{Three}

-- the bytes that were read, none where there is no such file, or the error
abbrev pub OrEmpty : {A : Type 0} → Result (Vec ℕ A) Error → Result (Vec ℕ A) Error → Type 0
OrEmpty (Ok v) r = r ≡ Ok v
OrEmpty (Err e) r = (error_kind e ≡ NotFound → IsOkAnd r (λ v. vec_items v ≡ [])) × (error_kind e ≢ NotFound → r ≡ Err e)

-- the file gives bytes
abbrev pub Gives : Result (Vec ℕ Global) Error → Type 0
Gives read = (v : Vec ℕ Global) × OrEmpty read (Ok v)

-- the three files as they were read, or the error of the first that gives none
abbrev pub Gathered : Result (Vec ℕ Global) Error → Result (Vec ℕ Global) Error → Result (Vec ℕ Global) Error → Result (Three (Vec ℕ Global)) Error → Type 0
Gathered plan faults site (Ok files) = OrEmpty plan (Ok files.plan) × OrEmpty faults (Ok files.faults) × OrEmpty site (Ok files.site)
Gathered plan faults site (Err e) = OrEmpty plan (Err e) ⊎ (Gives plan × (OrEmpty faults (Err e) ⊎ (Gives faults × OrEmpty site (Err e))))
