-- Steps that tell what follows from a set, and rounds of them.
use Rattle.std.specs.Prelude.{◌≡◌, ℕ, ◌<◌, Bool, true, false, ◌||◌, length, slice_index_or}
use Rattle.game.specs.Sets.{Row, Within}

-- what follows from a set follows from any larger one, among rows of n marks
abbrev pub Monotone : ℕ → (Row → ℕ → Bool) → Type 0
Monotone n f = (a b : Row) → length a ≡ n → length b ≡ n → Within a b → (i : ℕ) → f a i ≡ true → f b i ≡ true

-- what each step owes
pub record Grows {S : Type 0} (n : ℕ) (f : S → Row → ℕ → Bool) : Type 0 where
  pub grows : (s : S) → Monotone n (f s)

-- the row is marked where it was before, and wherever f says, and nowhere else
pub record Marked (n : ℕ) (f : ℕ → Bool) (was is : Row) : Type 0 where
  pub width : length is ≡ n
  pub each : (a : ℕ) → a < n → slice_index_or is a false ≡ (slice_index_or was a false || f a)

-- from s by whole rounds, each of which adds all that follows from the set before it
pub data Rounds (n : ℕ) (f : Row → ℕ → Bool) (s : Row) : Row → Type 0 where
  still : Rounds n f s s
  round : {t : Row} → Rounds n f s t → (u : Row) → Marked n (f t) t u → Rounds n f s u
