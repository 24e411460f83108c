-- Anything follows where two constructors would be equal: `never (cc)`, since `cc` proves any equation there.
use Rattle.std.proofs.Common.{◌≡◌, ℕ, arith}

pub never : {A : Type 0} → ◌≡◌ {A = ℕ} 0 1 → A
never e = absurd (omega arith)
