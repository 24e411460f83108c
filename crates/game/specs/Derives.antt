-- What follows from a set by the rules of a reduct, as tests.
use Rattle.std.specs.Prelude.{◌≡◌, ℕ, zero, suc, ◌<◌, Bool, true, false, not, ◌&&◌, ◌||◌, List, [], ◌∷◌, length, ◌==◌, slice_index_or}
use Rattle.game.specs.Sets.{Row, In, Within}
use Rattle.game.specs.Rules.{Rule, heads}

abbrev pub all_in : Row → List ℕ → Bool
all_in s [] = true
all_in s (a ∷ as') = slice_index_or s a false && all_in s as'

abbrev pub none_in : Row → List ℕ → Bool
none_in x [] = true
none_in x (a ∷ as') = not (slice_index_or x a false) && none_in x as'

-- the reduct for x keeps the rule, and its plain atoms are in s
abbrev pub fires : Row → Row → Rule → Bool
fires x s r = none_in x r.negated && all_in s r.plain

-- a is the head of a rule of the reduct for x whose plain atoms are in s
abbrev pub derives : List Rule → Row → Row → ℕ → Bool
derives [] x s a = false
derives (r ∷ rs) x s a = (heads a r.head && fires x s r) || derives rs x s a

-- the same for the heads of one level
abbrev pub derives_at : List Rule → (ℕ → ℕ) → ℕ → Row → Row → ℕ → Bool
derives_at rules level l x s a = level a == l && derives rules x s a

-- s is closed under f, which tells what follows from a set
abbrev pub Closed : ℕ → (Row → ℕ → Bool) → Row → Type 0
Closed n f s = (a : ℕ) → a < n → f s a ≡ true → In a s

-- s is the smallest set of n marks that contains start and is closed
pub record SmallestClosed (n : ℕ) (f : Row → ℕ → Bool) (start s : Row) : Type 0 where
  pub width : length s ≡ n
  pub around : Within start s
  pub closed : Closed n f s
  pub least : (t : Row) → length t ≡ n → Within start t → Closed n f t → Within s t

-- the set settled level by level, from level k on for n levels: at each level the smallest set around the one before it
-- that is closed under the rules for heads of that level, with negated atoms looked up in the one before it
pub data Settles (w : ℕ) (rules : List Rule) (level : ℕ → ℕ) : ℕ → ℕ → Row → Row → Type 0 where
  settled : {k : ℕ} {s : Row} → Settles w rules level k zero s s
  settle : {k n : ℕ} {s u : Row} (t : Row) → SmallestClosed w (derives_at rules level k s) s t → Settles w rules level (suc k) n t u → Settles w rules level k (suc n) s u
