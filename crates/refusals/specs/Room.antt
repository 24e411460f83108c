-- Writing bytes at the start of a buffer, where they fit.
use Rattle.std.specs.Prelude.{◌≡◌, ℕ, ◌<◌, ◌≤◌, List, ◌++◌, length, drop}
use Rattle.refusals.specs.declared.fault.Fault.{Fault}
use Rattle.refusals.specs.declared.fault.Fault.TheVariants.{NoRoom}

-- the bytes, n of them, stand at the start of `after`, and what comes after them is as before
pub record Written (bytes before after : List ℕ) (n : ℕ) : Type 0 where
  pub long : n ≡ length bytes
  pub fits : n ≤ length before
  pub whole : after ≡ bytes ++ drop n before

-- question 17: the bytes do not fit, and no byte is written
pub record Unwritten (bytes before after : List ℕ) (e : Fault) : Type 0 where
  pub cause : e ≡ NoRoom
  pub short : length before < length bytes
  pub kept : after ≡ before
