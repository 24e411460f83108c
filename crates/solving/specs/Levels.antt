-- Levels of atoms as a list, and whether they fit the rules.
use Rattle.std.specs.Prelude.{◌≡◌, ℕ, ◌+◌, ◌<◌, Bool, true, false, ◌&&◌, List, [], ◌∷◌, length, ◌==◌, nat_le, nat_lt, slice_index}
use Rattle.game.specs.Sets.{Row}
use Rattle.game.specs.Rules.{Head, none, atom, Rule}
use Rattle.closure.specs.Rows.{marked}
use Rattle.solving.specs.Reached.{Reached}

-- the level of an atom
abbrev pub level_in : List ℕ → ℕ → ℕ
level_in levels a = slice_index levels a

abbrev pub none_above : List ℕ → ℕ → List ℕ → Bool
none_above levels a [] = true
none_above levels a (b ∷ bs) = nat_le (level_in levels b) (level_in levels a) && none_above levels a bs

abbrev pub all_beneath : List ℕ → ℕ → List ℕ → Bool
all_beneath levels a [] = true
all_beneath levels a (b ∷ bs) = nat_lt (level_in levels b) (level_in levels a) && all_beneath levels a bs

abbrev pub rule_leveled : List ℕ → Head → Rule → Bool
rule_leveled levels none r = true
rule_leveled levels (atom a) r = none_above levels a r.plain && all_beneath levels a r.negated

-- each head stands no lower than its plain body atoms, and above its negated ones
abbrev pub leveled : List ℕ → List Rule → Bool
leveled levels [] = true
leveled levels (r ∷ rs) = rule_leveled levels r.head r && leveled levels rs

-- the head is of this level
abbrev pub head_at : List ℕ → ℕ → Head → Bool
head_at levels l none = false
head_at levels l (atom a) = level_in levels a == l

-- the level of each of the first k atoms is how many atoms below n it cannot reach
abbrev pub Ranked : List Rule → ℕ → ℕ → List ℕ → Type 0
Ranked rules n k levels = (a : ℕ) → a < k → (s : Row) × Reached rules a s × (length s ≡ n) × (level_in levels a + marked s ≡ n)
