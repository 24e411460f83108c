-- What a look is put to, by its number.
use Rattle.std.specs.Prelude.{◌≡◌, ℕ, ◌≢◌, Ok, Err, Result}
use Rattle.book.specs.declared.kind.Kind.{Kind}
use Rattle.book.specs.declared.kind.Kind.TheVariants.{Pair, Struck}
use Rattle.book.specs.declared.told.Refusal.{Refusal}
use Rattle.book.specs.declared.told.Refusal.TheVariants.{NoEntry}

abbrev pub kind_number : Kind → ℕ
kind_number Pair = 1
kind_number Struck = 2

-- the kind of this number, or the refusal where there is none
abbrev pub KindGives : ℕ → Result Kind Refusal → Type 0
KindGives n (Ok kind) = n ≡ kind_number kind
KindGives n (Err e) = (e ≡ NoEntry) × (n ≢ 1) × (n ≢ 2)
