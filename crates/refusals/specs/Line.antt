-- The refusal line, and what the call that writes it promises.
use Rattle.std.specs.Prelude.{◌≡◌, ℕ, ◌<◌, ◌≤◌, List, [], ◌∷◌, ◌++◌, length, drop, codes, decimal}
use Rattle.refusals.specs.Numbers.{number_of, text_of, byte_of}
use Rattle.refusals.specs.declared.fault.Fault.{Fault}
use Rattle.refusals.specs.declared.fault.Fault.TheVariants.{NoRoom}

-- `% refused 5 text 1 byte 1`
unfoldable pub refusal : Fault → List ℕ
refusal f = codes "% refused " ++ decimal (number_of f) ++ codes " text " ++ decimal (text_of f) ++ codes " byte " ++ decimal (byte_of f)

-- that and a line feed
unfoldable pub line : Fault → List ℕ
line f = refusal f ++ 10 ∷ []

-- the line stands at the start of `after`, and what comes after its n bytes is as before
pub record Told (f : Fault) (before after : List ℕ) (n : ℕ) : Type 0 where
  pub long : n ≡ length (line f)
  pub fits : n ≤ length before
  pub bytes : after ≡ line f ++ drop n before

-- the line does not fit, and no byte is written
pub record Untold (f : Fault) (before after : List ℕ) (e : Fault) : Type 0 where
  pub cause : e ≡ NoRoom
  pub short : length before < length (line f)
  pub kept : after ≡ before
