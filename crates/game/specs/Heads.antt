-- The sets of heads in two fixed orders, and what it is to list things exactly once.
use Rattle.std.specs.Prelude.{◌≡◌, ℕ, zero, suc, ◌<◌, Bool, true, false, cond, List, [], ◌∷◌, ◌++◌, map, length, slice_index_or}
use Rattle.std.specs.List.{ContainsAt as Has}
use Rattle.game.specs.Sets.{Row, In}
use Rattle.game.specs.Rules.{Rule, is_head}

-- every x with P stands on the list exactly once, and nothing else does
pub record Lists {X : Type 0} (xs : List X) (P : X → Type 0) : Type 0 where
  pub only : (x : X) → Has xs x → P x
  pub every : (x : X) → P x → Has xs x
  pub once : (i j : ℕ) (d : X) → i < length xs → j < length xs → slice_index_or xs i d ≡ slice_index_or xs j d → i ≡ j

-- s has n marks, and only numbers that pass f are in it
pub record Among (n : ℕ) (f : ℕ → Bool) (s : Row) : Type 0 where
  pub width : length s ≡ n
  pub passes : (a : ℕ) → In a s → f a ≡ true

-- the sets of numbers below n that pass f: the lowest number is settled first, and is out before it is in
abbrev pub sets_among : ℕ → (ℕ → Bool) → List Row
sets_among zero f = [] ∷ []
sets_among (suc n) f = let rest : List Row = sets_among n (λ a. f (suc a)) in map (λ s. false ∷ s) rest ++ cond (f 0) (map (λ s. true ∷ s) rest) []

-- the sets of heads of the rules, as rows of n marks
abbrev pub sets_of_heads : List Rule → ℕ → List Row
sets_of_heads rules n = sets_among n (is_head rules)

-- each row with a mark in front of it, where b, after the same row without one
abbrev pub both_firsts : Bool → List Row → List Row
both_firsts b [] = []
both_firsts b (s ∷ rest) = (false ∷ s) ∷ cond b ((true ∷ s) ∷ both_firsts b rest) (both_firsts b rest)

-- the sets of numbers below n that pass f, as binary numbers that ascend: the lowest number is the lowest digit
abbrev pub counted_among : ℕ → (ℕ → Bool) → List Row
counted_among zero f = [] ∷ []
counted_among (suc n) f = both_firsts (f 0) (counted_among n (λ a. f (suc a)))
